use Rattle.first_broken_laws.proofs.BinaryLaws.{index_first}
use Rattle.first_broken_laws.proofs.operators.index_is_first.Goals as goal

pub returns : goal.returns
returns c = index_first
