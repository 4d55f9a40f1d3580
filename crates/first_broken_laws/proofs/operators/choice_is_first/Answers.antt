use Rattle.first_broken_laws.proofs.ChoiceLaws.{choice_first}
use Rattle.first_broken_laws.proofs.operators.choice_is_first.Goals as goal

pub returns : goal.returns
returns c = choice_first
