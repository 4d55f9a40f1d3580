use Rattle.first_broken_laws.proofs.ChoiceLaws.{condition_named}
use Rattle.first_broken_laws.proofs.operators.condition_is_first.Goals as goal

pub returns : goal.returns
returns c = condition_named
