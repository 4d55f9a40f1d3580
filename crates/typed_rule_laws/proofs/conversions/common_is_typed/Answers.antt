use Rattle.typed_rule_laws.proofs.Converted.{common_is_typed}
use Rattle.typed_rule_laws.proofs.conversions.common_is_typed.Goals as goal

pub returns : goal.returns
returns c = common_is_typed
