use Rattle.typed_rule_laws.proofs.UnaryForms.{unary_is_typed}
use Rattle.typed_rule_laws.proofs.operators.unary_is_typed.Goals as goal

pub returns : goal.returns
returns c = unary_is_typed
