use Rattle.typed_rule_laws.proofs.Converted.{converted_is_typed, converted_is_of_type}
use Rattle.typed_rule_laws.proofs.conversions.converted_is_typed.Goals as goal

pub returns : goal.returns
returns c = record { typed = converted_is_typed; of_type = converted_is_of_type }
