use Rattle.first_broken_laws.proofs.OperationLaws.{logical_first}
use Rattle.first_broken_laws.proofs.operators.logic_is_first.Goals as goal

pub returns : goal.returns
returns c = logical_first
