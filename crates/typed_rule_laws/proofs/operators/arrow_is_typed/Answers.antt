use Rattle.typed_rule_laws.proofs.MemberForms.{arrow_is_typed}
use Rattle.typed_rule_laws.proofs.operators.arrow_is_typed.Goals as goal

pub returns : goal.returns
returns c = arrow_is_typed
