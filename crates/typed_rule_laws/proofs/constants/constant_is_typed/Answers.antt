use Rattle.typed_rule_laws.proofs.ConstantForms.{number_is_typed}
use Rattle.typed_rule_laws.proofs.constants.constant_is_typed.Goals as goal

pub returns : goal.returns
returns c = number_is_typed
