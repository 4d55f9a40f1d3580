use Rattle.c_tree.proofs.SyntaxDerived.{derived_sorted}
use Rattle.c_tree.proofs.syntax_laws.derived_trees_are_forms.Goals as goal

pub returns : goal.returns
returns c = λ tokens x s new ts rest t are d. derived_sorted tokens are d
