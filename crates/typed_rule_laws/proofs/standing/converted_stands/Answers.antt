use Rattle.typed_rule_laws.proofs.StandingValues.{converted_stands}
use Rattle.typed_rule_laws.proofs.standing.converted_stands.Goals as goal

pub returns : goal.returns
returns c = converted_stands
