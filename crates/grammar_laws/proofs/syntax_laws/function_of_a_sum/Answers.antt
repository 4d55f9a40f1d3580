use Rattle.std.proofs.Common.{refl}
use Rattle.model_grammar.specs.declared.grammar.Tree.TheBlock.{hidden-the_row-Tree-0}
use denote.Hole.Carrier.{hidden}
use Rattle.grammar_laws.proofs.syntax_laws.function_of_a_sum.Goals as goal

pub returns : goal.returns
unfolding hidden-the_row-Tree-0 hidden
returns c = refl
