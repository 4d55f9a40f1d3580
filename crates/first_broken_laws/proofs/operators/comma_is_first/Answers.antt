use Rattle.first_broken_laws.proofs.ChoiceLaws.{comma_first}
use Rattle.first_broken_laws.proofs.operators.comma_is_first.Goals as goal

pub returns : goal.returns
returns c = comma_first
