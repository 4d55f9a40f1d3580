use Rattle.first_broken_laws.proofs.ConversionLaws.{argument_first}
use Rattle.first_broken_laws.proofs.calls.argument_is_first.Goals as goal

pub returns : goal.returns
returns c = argument_first
