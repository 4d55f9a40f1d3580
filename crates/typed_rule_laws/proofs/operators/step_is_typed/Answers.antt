use Rattle.typed_rule_laws.proofs.UnaryForms.{step_is_typed}
use Rattle.typed_rule_laws.proofs.operators.step_is_typed.Goals as goal

pub returns : goal.returns
returns c = step_is_typed
