use Rattle.typed_rule_laws.proofs.ConstantForms.{text_is_typed}
use Rattle.typed_rule_laws.proofs.constants.text_is_typed.Goals as goal

pub returns : goal.returns
returns c = text_is_typed
