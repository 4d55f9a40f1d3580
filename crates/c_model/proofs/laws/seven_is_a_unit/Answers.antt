use Rattle.c_model.proofs.Rows.{seven_is_a_unit as law}
use Rattle.c_model.proofs.laws.seven_is_a_unit.Goals as goal

pub returns : goal.returns
returns c = law
