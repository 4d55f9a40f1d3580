use Rattle.first_broken_laws.proofs.WholeExpressions.{expr_first_broken}
use Rattle.first_broken_laws.proofs.expressions.expression_is_first.Goals as goal

pub returns : goal.returns
returns c = λ u s e k o h. expr_first_broken e u s k o h
