use Rattle.typed_expression_laws.proofs.WholeTrees.{type_name_sound}
use Rattle.typed_expression_laws.proofs.types.named_type_is_possible.Goals as goal

pub returns : goal.returns
returns c = λ u s name k h. type_name_sound name u s k h
