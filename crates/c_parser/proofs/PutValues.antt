-- What lists of trees stand for, put behind each other.
use mathlib.Core.Former.{Count}
use Rattle.std.specs.Prelude.{◌≡◌, Bool, true, false, List, [], ◌∷◌, ◌++◌, refl}
use Rattle.std.proofs.Common.{◌∙◌, ap, sym, append_assoc, append-nil}
use Rattle.model_grammar.specs.declared.grammar.Rule.{Rule}
use Rattle.model_grammar.specs.declared.grammar.Terminal.{Terminal}
use Rattle.model_grammar.specs.declared.grammar.Tree.{Tree, Row_of-Tree, end_of-Tree, more_of-Tree, items-the_row-Tree}
use Rattle.model_grammar.specs.declared.grammar.Tree.TheBlock.{hidden-the_row-Tree-0, items_hidden-the_row-Tree-0}
use Rattle.model_grammar.specs.declared.grammar.Tree.TheVariants as tree
use Rattle.model_tokens.specs.declared.tokens.CTok.{CTok}
use Rattle.model_grammar.specs.SyntaxValues.{Value, leaf_value}
use Rattle.model_grammar.specs.SyntaxActions.{value_of, values_of, node_value}
use Rattle.syntax_meanings.specs.declared.meanings.Value.{Value as Made}
use Rattle.syntax_meanings.specs.Meanings.{value_seen, values_seen}
use Rattle.c_parser.specs.TreeValues.{values, built, only_if}

pub values_append : (tokens : List CTok) (xs ys : List Tree) → values tokens (xs ++ ys) ≡ values tokens xs ++ values tokens ys
values_append tokens [] ys = refl
values_append tokens (x ∷ xs) ys = ap (λ vs. value_of tokens x ∷ vs) (values_append tokens xs ys)

built_append : (b : Bool) (tokens : List CTok) (xs ys : List Tree) → built b tokens (xs ++ ys) ≡ built b tokens xs ++ built b tokens ys
built_append true tokens xs ys = values_append tokens xs ys
built_append false tokens xs ys = refl

-- more trees behind those that are put
pub put_more : (b : Bool) (tokens : List CTok) (before middle later : List Value) (xs ys : List Tree) → middle ≡ before ++ built b tokens xs → later ≡ middle ++ built b tokens ys → later ≡ before ++ built b tokens (xs ++ ys)
put_more b tokens before middle later xs ys m l = l ∙ (ap (λ z. z ++ built b tokens ys) m ∙ (append_assoc before (built b tokens xs) (built b tokens ys) ∙ ap (λ z. before ++ z) (sym (built_append b tokens xs ys))))

-- no more trees
pub put_none : (b : Bool) (tokens : List CTok) (before later : List Value) (xs turns : List Tree) → later ≡ before ++ built b tokens turns → xs ≡ turns ++ [] → later ≡ before ++ built b tokens xs
put_none b tokens before later xs turns l e = l ∙ ap (λ z. before ++ built b tokens z) (sym (e ∙ append-nil turns))

-- no tree
pub put_nothing : (b : Bool) (tokens : List CTok) (before : List Value) → before ≡ before ++ built b tokens []
put_nothing true tokens before = sym (append-nil before)
put_nothing false tokens before = sym (append-nil before)

-- one leaf is put
pub put_leaf : (b : Bool) (tokens : List CTok) (before later : List Value) (t : Terminal) → later ≡ before ++ only_if b (leaf_value tokens t) → later ≡ before ++ built b tokens (tree.Leaf t ∷ [])
put_leaf true tokens before later t l = l
put_leaf false tokens before later t l = l

row_values : (tokens : List CTok) (n : Count) (k : Row_of-Tree n) → values_of tokens k ≡ values tokens (items-the_row-Tree n k)
row_values tokens n end_of-Tree = refl
row_values tokens n (more_of-Tree t k) = ap (λ vs. value_of tokens t ∷ vs) (row_values tokens _ k)

-- the value of a node
pub node_of : (tokens : List CTok) (x : Rule) (xs : List Tree) → value_of tokens (tree.Node x xs) ≡ node_value x (values tokens xs)
node_of tokens x xs = ap (node_value x) (row_values tokens _ (hidden-the_row-Tree-0 xs) ∙ ap (values tokens) (items_hidden-the_row-Tree-0 xs))

-- one node is put
pub put_node : (b : Bool) (tokens : List CTok) (before later inside : List Value) (x : Rule) (xs : List Tree) → later ≡ before ++ only_if b (node_value x inside) → inside ≡ built b tokens xs → later ≡ before ++ built b tokens (tree.Node x xs ∷ [])
put_node true tokens before later inside x xs l e = l ∙ ap (λ v. before ++ v ∷ []) (ap (node_value x) e ∙ sym (node_of tokens x xs))
put_node false tokens before later inside x xs l e = l

seen_behind : (before : List Made) (made : Made) → values_seen (before ++ made ∷ []) ≡ values_seen before ++ value_seen made ∷ []
seen_behind [] made = refl
seen_behind (x ∷ before) made = ap (λ vs. value_seen x ∷ vs) (seen_behind before made)

-- a value is put behind the others
pub push_seen : (before later : List Made) (made : Made) (v : Value) (b : Bool) → b ≡ true → later ≡ before ++ made ∷ [] → value_seen made ≡ v → values_seen later ≡ values_seen before ++ only_if b v
push_seen before later made v true t e m = ap values_seen e ∙ (seen_behind before made ∙ ap (λ z. values_seen before ++ z ∷ []) m)
push_seen before later made v false t e m = absurd (cc)
