use Rattle.typed_rule_laws.proofs.StandingValues.{value_stands}
use Rattle.typed_rule_laws.proofs.standing.value_stands.Goals as goal

pub returns : goal.returns
returns c = value_stands
