use Rattle.std.proofs.Common.{◌≡◌, ◌+◌, ◌*◌, drop}
use Rattle.c_tree.specs.apparatus.SyntaxSizes as n
use Rattle.c_tree.specs.SyntaxTrees.{expr_tree, statement_tree}
use Rattle.c_tree.specs.SyntaxViews as v
use Rattle.model_checking.specs.LaterForms as later
use Rattle.later_forms.proofs.statements.+statement.Given as goal

abbrev pub decreases-in_statement : goal.decreases-in_statement
decreases-in_statement l = 8 * n.statement_nodes (statement_tree l.statement.now)

abbrev pub decreases-in_if : goal.decreases-in_if
decreases-in_if l = 8 * (n.expr_nodes (expr_tree l.condition.now) + n.statement_nodes (statement_tree l.first.now) + n.maybe_statement_nodes (v.maybe_statement_of l.second.now)) + 5

abbrev pub decreases-in_loop : goal.decreases-in_loop
decreases-in_loop l = 8 * (n.expr_nodes (expr_tree l.condition.now) + n.statement_nodes (statement_tree l.body.now)) + 4

abbrev pub decreases-in_for : goal.decreases-in_for
decreases-in_for l = 8 * n.statement_nodes (statement_tree l.body.now) + 4

abbrev pub decreases-in_maybe_statement : goal.decreases-in_maybe_statement
decreases-in_maybe_statement l = 8 * n.maybe_statement_nodes (v.maybe_statement_of l.statement.now) + 1

abbrev pub decreases-in_block_item : goal.decreases-in_block_item
decreases-in_block_item l = 8 * n.block_item_nodes (v.block_item_of l.item.now)

abbrev pub decreases-in_block_items : goal.decreases-in_block_items
decreases-in_block_items l = 8 * n.block_items_nodes (v.block_items_of l.items.now)

abbrev pub decreases-in_block : goal.decreases-in_block
decreases-in_block l = 8 * n.block_nodes (v.block_of l.body.now)

abbrev pub invariant-in_block_items-loop-item : goal.invariant-in_block_items-loop-item
invariant-in_block_items-loop-item l = later.in_block_items (v.block_items_of (drop l.item-index l.items)) ≡ later.in_block_items (v.block_items_of l.items)
