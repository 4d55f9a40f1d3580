use Rattle.c_model.proofs.Releases.{dead_owner_is_misused}
use Rattle.c_model.proofs.examples.freed_owner_is_dead_in_next_round.Goals as goal

pub returns-clause-misuse : goal.returns-clause-misuse
returns-clause-misuse c = dead_owner_is_misused
