use Rattle.std.proofs.Common.{◌≡◌, ◌++◌, ◌+◌, ◌*◌, drop}
use Rattle.c89_tree.specs.ProgramNodes89.{exprs}
use Rattle.model_c89.specs.SpellingParts89.{more_arguments_text}
use Rattle.c89_tree.specs.apparatus.UnitSizes.{expr_nodes, exprs_nodes}
use Rattle.c89_writer.proofs.expressions.+expression.Given as goal

abbrev pub decreases-push_expr : goal.decreases-push_expr
decreases-push_expr l = 2 * expr_nodes l.expr.now

abbrev pub decreases-push_operation : goal.decreases-push_operation
decreases-push_operation l = 2 * (expr_nodes l.left.now + expr_nodes l.right.now) + 1

abbrev pub decreases-push_arguments : goal.decreases-push_arguments
decreases-push_arguments l = 2 * exprs_nodes (exprs l.arguments.now)

abbrev pub decreases-push_more_arguments : goal.decreases-push_more_arguments
decreases-push_more_arguments l = 2 * exprs_nodes (exprs l.arguments.now)

abbrev pub invariant-push_more_arguments-loop-argument : goal.invariant-push_more_arguments-loop-argument
invariant-push_more_arguments-loop-argument l = l.out ++ more_arguments_text (exprs (drop l.argument-index l.arguments)) ≡ l.initial.out ++ more_arguments_text (exprs l.arguments)
