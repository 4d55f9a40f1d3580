use Rattle.c_tree.proofs.SyntaxDerived.{derived_unit}
use Rattle.c_tree.proofs.syntax_laws.derived_units_are_units.Goals as goal

pub returns : goal.returns
returns c = λ tokens new t d. derived_unit tokens d
