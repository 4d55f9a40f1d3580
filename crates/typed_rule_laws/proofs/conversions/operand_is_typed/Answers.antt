use Rattle.typed_rule_laws.proofs.Values.{operand_is_value}
use Rattle.typed_rule_laws.proofs.conversions.operand_is_typed.Goals as goal

pub returns : goal.returns
returns c = operand_is_value
