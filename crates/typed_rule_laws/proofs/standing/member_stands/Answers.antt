use Rattle.typed_rule_laws.proofs.StandingForms.{member_stands}
use Rattle.typed_rule_laws.proofs.standing.member_stands.Goals as goal

pub returns : goal.returns
returns c = member_stands
