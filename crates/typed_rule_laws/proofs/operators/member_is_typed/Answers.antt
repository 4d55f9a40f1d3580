use Rattle.typed_rule_laws.proofs.MemberForms.{member_is_typed}
use Rattle.typed_rule_laws.proofs.operators.member_is_typed.Goals as goal

pub returns : goal.returns
returns c = member_is_typed
