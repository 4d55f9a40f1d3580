use Rattle.c_model.proofs.Carried.{same_from_is_same}
use Rattle.c_model.proofs.translation_laws.same_from_is_same.Goals as goal

pub returns : goal.returns
returns c = same_from_is_same
