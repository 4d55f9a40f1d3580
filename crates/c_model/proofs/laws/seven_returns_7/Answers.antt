use Rattle.c_model.proofs.Rows.{seven_returns_7 as law}
use Rattle.c_model.proofs.laws.seven_returns_7.Goals as goal

pub returns : goal.returns
returns c = law
