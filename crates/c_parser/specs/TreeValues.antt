-- What trees of the grammar stand for, over the tokens of their list.
use Rattle.std.specs.Prelude.{Bool, true, false, List, [], ◌∷◌}
use Rattle.model_grammar.specs.declared.grammar.Tree.{Tree}
use Rattle.model_tokens.specs.declared.tokens.CTok.{CTok}
use Rattle.model_grammar.specs.SyntaxValues.{Value}
use Rattle.model_grammar.specs.SyntaxActions.{value_of}

abbrev pub values : List CTok → List Tree → List Value
values tokens [] = []
values tokens (tree ∷ trees) = value_of tokens tree ∷ values tokens trees

-- what is put of a value, and of trees: nothing where nothing is built
abbrev pub only_if : Bool → Value → List Value
only_if true value = value ∷ []
only_if false value = []

abbrev pub built : Bool → List CTok → List Tree → List Value
built true tokens trees = values tokens trees
built false tokens trees = []
