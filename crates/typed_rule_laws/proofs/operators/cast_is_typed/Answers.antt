use Rattle.typed_rule_laws.proofs.CastForms.{cast_is_typed}
use Rattle.typed_rule_laws.proofs.operators.cast_is_typed.Goals as goal

pub returns : goal.returns
returns c = cast_is_typed
