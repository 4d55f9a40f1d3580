use Rattle.std.proofs.Common.{◌+◌, ◌*◌}
use Rattle.writer_table.proofs.words.Words.+statement.Given as goal

abbrev pub decreases-stat_at : goal.decreases-stat_at
decreases-stat_at l = 7 * l.depth

abbrev pub decreases-push_stats : goal.decreases-push_stats
decreases-push_stats l = 7 * l.depth + 1

abbrev pub decreases-item : goal.decreases-item
decreases-item l = 7 * l.depth + 1

abbrev pub decreases-stats : goal.decreases-stats
decreases-stats l = 7 * l.depth + 2

abbrev pub decreases-push_items : goal.decreases-push_items
decreases-push_items l = 7 * l.depth + 2

abbrev pub decreases-inside : goal.decreases-inside
decreases-inside l = 7 * l.depth + 3

abbrev pub decreases-switch : goal.decreases-switch
decreases-switch l = 7 * l.depth + 3

abbrev pub decreases-block : goal.decreases-block
decreases-block l = 7 * l.depth + 4

abbrev pub decreases-choice_of_one : goal.decreases-choice_of_one
decreases-choice_of_one l = 7 * l.depth + 5

abbrev pub decreases-choice_of_two : goal.decreases-choice_of_two
decreases-choice_of_two l = 7 * l.depth + 5

abbrev pub decreases-stat_form : goal.decreases-stat_form
decreases-stat_form l = 7 * l.depth + 6
