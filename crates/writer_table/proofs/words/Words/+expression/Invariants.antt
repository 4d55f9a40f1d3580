use Rattle.std.proofs.Common.{◌+◌, ◌*◌}
use Rattle.writer_table.proofs.words.Words.+expression.Given as goal

abbrev pub decreases-expr_at : goal.decreases-expr_at
decreases-expr_at l = 6 * l.depth

abbrev pub decreases-next_expr : goal.decreases-next_expr
decreases-next_expr l = 6 * l.depth + 1

abbrev pub decreases-push_exprs : goal.decreases-push_exprs
decreases-push_exprs l = 6 * l.depth + 1

abbrev pub decreases-two_exprs : goal.decreases-two_exprs
decreases-two_exprs l = 6 * l.depth + 2

abbrev pub decreases-member : goal.decreases-member
decreases-member l = 6 * l.depth + 2

abbrev pub decreases-call : goal.decreases-call
decreases-call l = 6 * l.depth + 2

abbrev pub decreases-cast : goal.decreases-cast
decreases-cast l = 6 * l.depth + 2

abbrev pub decreases-choice : goal.decreases-choice
decreases-choice l = 6 * l.depth + 3

abbrev pub decreases-postfix_form : goal.decreases-postfix_form
decreases-postfix_form l = 6 * l.depth + 4

abbrev pub decreases-expr_form : goal.decreases-expr_form
decreases-expr_form l = 6 * l.depth + 5
