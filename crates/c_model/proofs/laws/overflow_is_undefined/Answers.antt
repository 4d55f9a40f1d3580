use Rattle.c_model.proofs.Rows.{overflow_is_a_unit, overflow_is_undefined as undefined}
use Rattle.c_model.proofs.laws.overflow_is_undefined.Goals as goal

pub returns : goal.returns
returns c = record { unit = overflow_is_a_unit; run = undefined }
