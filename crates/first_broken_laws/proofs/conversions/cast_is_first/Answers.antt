use Rattle.first_broken_laws.proofs.CallLaws.{cast_first}
use Rattle.first_broken_laws.proofs.conversions.cast_is_first.Goals as goal

pub returns : goal.returns
returns c = cast_first
