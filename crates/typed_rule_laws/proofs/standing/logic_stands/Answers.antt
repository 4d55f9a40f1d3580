use Rattle.typed_rule_laws.proofs.StandingOperators.{logic_stands}
use Rattle.typed_rule_laws.proofs.standing.logic_stands.Goals as goal

pub returns : goal.returns
returns c = logic_stands
