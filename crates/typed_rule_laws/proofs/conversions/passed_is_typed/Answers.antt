use Rattle.typed_rule_laws.proofs.CallForms.{passed_is_typed}
use Rattle.typed_rule_laws.proofs.conversions.passed_is_typed.Goals as goal

pub returns : goal.returns
returns c = passed_is_typed
