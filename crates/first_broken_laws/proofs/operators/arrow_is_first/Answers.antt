use Rattle.first_broken_laws.proofs.ChoiceLaws.{arrow_first}
use Rattle.first_broken_laws.proofs.operators.arrow_is_first.Goals as goal

pub returns : goal.returns
returns c = arrow_first
