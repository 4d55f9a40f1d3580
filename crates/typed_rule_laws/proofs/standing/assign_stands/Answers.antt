use Rattle.typed_rule_laws.proofs.StandingForms.{assign_stands}
use Rattle.typed_rule_laws.proofs.standing.assign_stands.Goals as goal

pub returns : goal.returns
returns c = assign_stands
