use Rattle.c_model.proofs.Rows.{nine_is_a_unit as law}
use Rattle.c_model.proofs.laws.parentheses_have_places.Goals as goal

pub returns : goal.returns
returns c = law
