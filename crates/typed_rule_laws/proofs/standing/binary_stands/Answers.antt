use Rattle.typed_rule_laws.proofs.StandingOperators.{binary_stands}
use Rattle.typed_rule_laws.proofs.standing.binary_stands.Goals as goal

pub returns : goal.returns
returns c = binary_stands
