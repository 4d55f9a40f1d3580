use Rattle.typed_rule_laws.proofs.ChoiceForms.{choice_is_typed}
use Rattle.typed_rule_laws.proofs.operators.choice_is_typed.Goals as goal

pub returns : goal.returns
returns c = choice_is_typed
