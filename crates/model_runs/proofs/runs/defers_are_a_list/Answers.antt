use Rattle.model_runs.proofs.DefersAlike.{defers_in_list as law}
use Rattle.model_runs.proofs.runs.defers_are_a_list.Goals as goal

pub returns : goal.returns
returns c = law
