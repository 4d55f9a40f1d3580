use Rattle.typed_rule_laws.proofs.StandingForms.{comma_stands}
use Rattle.typed_rule_laws.proofs.standing.comma_stands.Goals as goal

pub returns : goal.returns
returns c = comma_stands
