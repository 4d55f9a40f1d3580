use Rattle.model_runs.proofs.Turns.{over_stays_over as law}
use Rattle.model_runs.proofs.runs.run_that_is_over_stays_over.Goals as goal

pub returns : goal.returns
returns c = law
