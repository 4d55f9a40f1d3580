use Rattle.first_broken_laws.proofs.ChoiceLaws.{member_first}
use Rattle.first_broken_laws.proofs.operators.member_is_first.Goals as goal

pub returns : goal.returns
returns c = member_first
