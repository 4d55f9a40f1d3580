use Rattle.c_model.proofs.FirstUnitTyped.{first_unit_is_typed as law}
use Rattle.c_model.proofs.laws.first_unit_is_typed.Goals as goal

pub returns : goal.returns
returns c = law
