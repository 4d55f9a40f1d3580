use Rattle.c_model.proofs.Lifted.{first_lifted, tenth_lifted}
use Rattle.c_model.proofs.made_examples.lifted_names_are_numbered.Goals as goal

pub returns-clause-first : goal.returns-clause-first
returns-clause-first c = first_lifted

pub returns-clause-tenth : goal.returns-clause-tenth
returns-clause-tenth c = tenth_lifted
