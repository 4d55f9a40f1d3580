use Rattle.first_broken_laws.proofs.ConversionLaws.{giving_first}
use Rattle.first_broken_laws.proofs.conversions.giving_is_first.Goals as goal

pub returns : goal.returns
returns c = giving_first
