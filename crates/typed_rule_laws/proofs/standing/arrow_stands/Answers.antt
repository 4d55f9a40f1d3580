use Rattle.typed_rule_laws.proofs.StandingForms.{arrow_stands}
use Rattle.typed_rule_laws.proofs.standing.arrow_stands.Goals as goal

pub returns : goal.returns
returns c = arrow_stands
