use Rattle.typed_rule_laws.proofs.StandingOperators.{index_stands}
use Rattle.typed_rule_laws.proofs.standing.index_stands.Goals as goal

pub returns : goal.returns
returns c = index_stands
