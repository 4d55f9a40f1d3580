use Rattle.typed_rule_laws.proofs.StandingForms.{call_stands}
use Rattle.typed_rule_laws.proofs.standing.call_stands.Goals as goal

pub returns : goal.returns
returns c = call_stands
