use Rattle.typed_rule_laws.proofs.StandingForms.{passed_stands, argument_stands}
use Rattle.typed_rule_laws.proofs.standing.passed_stands.Goals as goal

pub returns : goal.returns
returns c = record { given = passed_stands; argument = argument_stands }
