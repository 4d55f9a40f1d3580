use Rattle.typed_rule_laws.proofs.StandingForms.{number_stands, measure_stands, text_stands}
use Rattle.typed_rule_laws.proofs.standing.constants_stand.Goals as goal

pub returns : goal.returns
returns c = record { constant = number_stands; measure = measure_stands; string = text_stands }
