use Rattle.c_model.proofs.GivenAlike.{bumped_alike}
use Rattle.c_model.proofs.translation_laws.given_int_is_changed_alike.Goals as goal

pub returns-clause-same : goal.returns-clause-same
returns-clause-same c = bumped_alike
