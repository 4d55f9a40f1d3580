use Rattle.first_broken_laws.proofs.Operands.{use_named}
use Rattle.first_broken_laws.proofs.operators.use_is_first.Goals as goal

pub returns : goal.returns
returns c = use_named
