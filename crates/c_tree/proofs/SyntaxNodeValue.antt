-- What a node of the grammar's trees stands for, by its symbols.
use mathlib.Core.Former.{Count}
use Rattle.std.specs.Prelude.{◌≡◌, List, [], ◌∷◌, refl}
use Rattle.std.proofs.Common.{◌∙◌, ap}
use Rattle.model_grammar.specs.declared.grammar.Rule.{Rule}
use Rattle.model_grammar.specs.declared.grammar.Tree.{Tree, Row_of-Tree, end_of-Tree, more_of-Tree, items-the_row-Tree}
use Rattle.model_grammar.specs.declared.grammar.Tree.TheBlock.{hidden-the_row-Tree-0, items_hidden-the_row-Tree-0}
use Rattle.model_grammar.specs.declared.grammar.Tree.TheVariants as tree
use Rattle.model_tokens.specs.declared.tokens.CTok.{CTok}
use Rattle.model_grammar.specs.SyntaxValues.{Value}
use Rattle.model_grammar.specs.SyntaxActions.{value_of, values_of, node_value}

abbrev pub values : List CTok → List Tree → List Value
values tokens [] = []
values tokens (x ∷ xs) = value_of tokens x ∷ values tokens xs

row_values : (tokens : List CTok) (n : Count) (k : Row_of-Tree n) → values_of tokens k ≡ values tokens (items-the_row-Tree n k)
row_values tokens n end_of-Tree = refl
row_values tokens n (more_of-Tree t k) = ap (λ vs. value_of tokens t ∷ vs) (row_values tokens _ k)

pub node_of : (tokens : List CTok) (x : Rule) (xs : List Tree) → value_of tokens (tree.Node x xs) ≡ node_value x (values tokens xs)
node_of tokens x xs = ap (node_value x) (row_values tokens _ (hidden-the_row-Tree-0 xs) ∙ ap (values tokens) (items_hidden-the_row-Tree-0 xs))
