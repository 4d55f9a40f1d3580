use Rattle.first_broken_laws.proofs.OperationLaws.{binary_first}
use Rattle.first_broken_laws.proofs.operators.binary_is_first.Goals as goal

pub returns : goal.returns
returns c = binary_first
