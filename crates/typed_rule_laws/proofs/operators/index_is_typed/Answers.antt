use Rattle.typed_rule_laws.proofs.PointerForms.{index_is_typed}
use Rattle.typed_rule_laws.proofs.operators.index_is_typed.Goals as goal

pub returns : goal.returns
returns c = index_is_typed
