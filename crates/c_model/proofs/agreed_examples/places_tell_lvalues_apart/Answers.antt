use Rattle.c_model.proofs.Refused.{two_lvalues_at_one_place as law}
use Rattle.c_model.proofs.agreed_examples.places_tell_lvalues_apart.Goals as goal

pub returns-clause-places : goal.returns-clause-places
returns-clause-places c = law
