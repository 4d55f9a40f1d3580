use Rattle.typed_rule_laws.proofs.ConstantForms.{truth_is_typed, null_is_typed}
use Rattle.typed_rule_laws.proofs.constants.truth_is_typed.Goals as goal

pub returns : goal.returns
returns c = record { truth = truth_is_typed; null = null_is_typed }
