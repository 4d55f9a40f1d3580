use Rattle.typed_rule_laws.proofs.StandingForms.{choice_stands}
use Rattle.typed_rule_laws.proofs.standing.choice_stands.Goals as goal

pub returns : goal.returns
returns c = choice_stands
