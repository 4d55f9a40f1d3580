use Rattle.typed_rule_laws.proofs.StandingForms.{assign_by_stands}
use Rattle.typed_rule_laws.proofs.standing.assign_by_stands.Goals as goal

pub returns : goal.returns
returns c = assign_by_stands
