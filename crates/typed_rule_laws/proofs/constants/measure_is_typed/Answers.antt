use Rattle.typed_rule_laws.proofs.ConstantForms.{size_is_typed, alignment_is_typed}
use Rattle.typed_rule_laws.proofs.constants.measure_is_typed.Goals as goal

pub returns : goal.returns
returns c = record { size = size_is_typed; alignment = alignment_is_typed }
