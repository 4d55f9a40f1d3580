use Rattle.c_model.proofs.SumFlattened.{sum_flattens}
use Rattle.c_model.proofs.translation_laws.sum_is_flattened.Goals as goal

pub returns : goal.returns
returns c = sum_flattens
