use Rattle.first_broken_laws.proofs.UnaryLaws.{unary_first}
use Rattle.first_broken_laws.proofs.operators.unary_is_first.Goals as goal

pub returns : goal.returns
returns c = unary_first
