use Rattle.typed_rule_laws.proofs.AssignForms.{assign_is_typed}
use Rattle.typed_rule_laws.proofs.operators.assign_is_typed.Goals as goal

pub returns : goal.returns
returns c = assign_is_typed
