use Rattle.typed_rule_laws.proofs.StandingOperators.{step_stands}
use Rattle.typed_rule_laws.proofs.standing.step_stands.Goals as goal

pub returns : goal.returns
returns c = step_stands
