use Rattle.typed_rule_laws.proofs.Values.{value_is_operand}
use Rattle.typed_rule_laws.proofs.conversions.value_is_operand.Goals as goal

pub returns : goal.returns
returns c = value_is_operand
