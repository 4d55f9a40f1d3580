use Rattle.typed_rule_laws.proofs.StandingOperators.{unary_stands}
use Rattle.typed_rule_laws.proofs.standing.unary_stands.Goals as goal

pub returns : goal.returns
returns c = unary_stands
