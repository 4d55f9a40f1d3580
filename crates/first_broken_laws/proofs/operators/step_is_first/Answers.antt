use Rattle.first_broken_laws.proofs.UnaryLaws.{step_first}
use Rattle.first_broken_laws.proofs.operators.step_is_first.Goals as goal

pub returns : goal.returns
returns c = step_first
