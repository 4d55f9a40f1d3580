use Rattle.typed_rule_laws.proofs.StandingForms.{cast_stands}
use Rattle.typed_rule_laws.proofs.standing.cast_stands.Goals as goal

pub returns : goal.returns
returns c = cast_stands
