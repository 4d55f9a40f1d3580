use Rattle.std.proofs.Common.{◌+◌, ◌*◌}
use Rattle.writer_table.proofs.words.Words.+initial_value.Given as goal

abbrev pub decreases-init_at : goal.decreases-init_at
decreases-init_at l = 3 * l.depth

abbrev pub decreases-push_inits : goal.decreases-push_inits
decreases-push_inits l = 3 * l.depth + 1

abbrev pub decreases-braces : goal.decreases-braces
decreases-braces l = 3 * l.depth + 2
