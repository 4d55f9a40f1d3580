use Rattle.typed_rule_laws.proofs.BinaryForms.{binary_is_typed}
use Rattle.typed_rule_laws.proofs.operators.binary_is_typed.Goals as goal

pub returns : goal.returns
returns c = binary_is_typed
