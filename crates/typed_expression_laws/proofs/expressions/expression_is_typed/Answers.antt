use Rattle.typed_expression_laws.proofs.WholeTrees.{expr_sound}
use Rattle.typed_expression_laws.proofs.expressions.expression_is_typed.Goals as goal

pub returns : goal.returns
returns c = λ u s e k h. expr_sound e u s k h
