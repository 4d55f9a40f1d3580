use Rattle.typed_rule_laws.proofs.CallForms.{call_is_typed}
use Rattle.typed_rule_laws.proofs.calls.call_is_typed.Goals as goal

pub returns : goal.returns
returns c = call_is_typed
