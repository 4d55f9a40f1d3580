use Rattle.std.proofs.Common.{◌≡◌, ◌+◌, refl, arith}
use Rattle.c_tree.specs.apparatus.SyntaxSizes as n
use Rattle.c_tree.specs.SyntaxViews as v
use Rattle.later_forms.proofs.Lists.{in_list}
use Rattle.later_forms.proofs.statements.+statement.Goals as goal

pub in_block_items-in_block_item-requires : goal.in_block_items-in_block_item-requires
in_block_items-in_block_item-requires t c =
    (omega (arith, c.decreases, in_list (λ xs. n.block_items_nodes (v.block_items_of xs)) (λ x. n.block_item_nodes (v.block_item_of x)) (λ x xs. refl) c.args.items.now c.loop-item.item-index c.item-item.result c.loop-item-test.true c.item-item.is), tt)
