use Rattle.typed_expression_laws.proofs.PublicLaws.{derived_possible}
use Rattle.typed_expression_laws.proofs.types.derived_type_is_possible.Goals as goal

pub returns : goal.returns
returns c = derived_possible
