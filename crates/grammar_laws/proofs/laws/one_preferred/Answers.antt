use Rattle.grammar_laws.proofs.preferred_tree.ChoiceOrder.{one_preferred_tree}
use Rattle.grammar_laws.proofs.laws.one_preferred.Goals as goal

pub returns : goal.returns
returns c = one_preferred_tree
