use Rattle.model_runs.proofs.Turns.{bound_never_decides as law}
use Rattle.model_runs.proofs.runs.bound_never_decides.Goals as goal

pub returns : goal.returns
returns c = law
