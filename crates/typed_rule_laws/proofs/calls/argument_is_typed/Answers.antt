use Rattle.typed_rule_laws.proofs.CallForms.{argument_is_typed}
use Rattle.typed_rule_laws.proofs.calls.argument_is_typed.Goals as goal

pub returns : goal.returns
returns c = argument_is_typed
