use Rattle.typed_expression_laws.proofs.PublicLaws.{specified_possible}
use Rattle.typed_expression_laws.proofs.types.specified_type_is_possible.Goals as goal

pub returns : goal.returns
returns c = specified_possible
