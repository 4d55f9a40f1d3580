use Rattle.typed_rule_laws.proofs.Converted.{promoted_value_is_typed, promoted_value_promoted}
use Rattle.typed_rule_laws.proofs.conversions.promoted_is_typed.Goals as goal

pub returns : goal.returns
returns c = record { typed = promoted_value_is_typed; promoted = promoted_value_promoted }
