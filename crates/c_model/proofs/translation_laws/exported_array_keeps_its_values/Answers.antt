use Rattle.c_model.proofs.GivenAlike.{zeros_are_not_exported}
use Rattle.c_model.proofs.translation_laws.exported_array_keeps_its_values.Goals as goal

pub returns-clause-zeros : goal.returns-clause-zeros
returns-clause-zeros c = zeros_are_not_exported
