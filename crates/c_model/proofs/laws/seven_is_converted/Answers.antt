use Rattle.c_model.proofs.Rows.{seven_is_converted as law}
use Rattle.c_model.proofs.laws.seven_is_converted.Goals as goal

pub returns : goal.returns
returns c = law
