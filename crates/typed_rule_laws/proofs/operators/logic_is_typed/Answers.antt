use Rattle.typed_rule_laws.proofs.BinaryForms.{logic_is_typed}
use Rattle.typed_rule_laws.proofs.operators.logic_is_typed.Goals as goal

pub returns : goal.returns
returns c = logic_is_typed
