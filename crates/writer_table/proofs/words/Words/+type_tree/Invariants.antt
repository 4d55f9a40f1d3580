use Rattle.std.proofs.Common.{◌+◌, ◌*◌}
use Rattle.writer_table.proofs.words.Words.+type_tree.Given as goal

abbrev pub decreases-type_at : goal.decreases-type_at
decreases-type_at l = 5 * l.depth

abbrev pub decreases-next_type : goal.decreases-next_type
decreases-next_type l = 5 * l.depth + 1

abbrev pub decreases-push_types : goal.decreases-push_types
decreases-push_types l = 5 * l.depth + 1

abbrev pub decreases-types : goal.decreases-types
decreases-types l = 5 * l.depth + 2

abbrev pub decreases-function_type : goal.decreases-function_type
decreases-function_type l = 5 * l.depth + 3

abbrev pub decreases-type_form : goal.decreases-type_form
decreases-type_form l = 5 * l.depth + 4
