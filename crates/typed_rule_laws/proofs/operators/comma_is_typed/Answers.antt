use Rattle.typed_rule_laws.proofs.CastForms.{comma_is_typed}
use Rattle.typed_rule_laws.proofs.operators.comma_is_typed.Goals as goal

pub returns : goal.returns
returns c = comma_is_typed
