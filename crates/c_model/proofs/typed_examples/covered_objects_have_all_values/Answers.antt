use Rattle.c_model.proofs.Covered.{scalar_is_covered, second_has_no_value}
use Rattle.c_model.proofs.typed_examples.covered_objects_have_all_values.Goals as goal

pub returns-clause-scalar : goal.returns-clause-scalar
returns-clause-scalar c = scalar_is_covered

pub returns-clause-array : goal.returns-clause-array
returns-clause-array c = second_has_no_value
