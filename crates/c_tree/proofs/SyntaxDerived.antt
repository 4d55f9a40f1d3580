-- What each tree of a derivation stands for is a form of the sort of its nonterminal.
use Rattle.std.specs.Prelude.{◌≡◌, ℕ, ◌+◌, List, [], ◌∷◌, ◌++◌, length, slice_get, Option, Some, None, IsSome, refl}
use Rattle.std.proofs.Common.{sym, subst, ◌∙◌, ap, arith, append_assoc}
use Rattle.model_grammar.specs.declared.grammar.Act.{Act}
use Rattle.model_grammar.specs.declared.grammar.Rule.{Rule}
use Rattle.model_grammar.specs.declared.grammar.Rule.TheVariants as r
use Rattle.model_grammar.specs.declared.grammar.Terminal.{Terminal}
use Rattle.model_grammar.specs.declared.grammar.Tree.{Tree}
use Rattle.model_types.specs.declared.marks.Span.{Span}
use Rattle.model_tokens.specs.declared.tokens.CTok.{CTok}
use Rattle.model_grammar.specs.Derivation.{Derives}
use Rattle.model_grammar.specs.GrammarForm.{Form, word, rule}
use Rattle.model_grammar.specs.NameScopes.{Scopes, start}
use Rattle.model_grammar.specs.SyntaxActions.{value_of, node_value, tree_of, unit_in}
use Rattle.c_tree.proofs.SyntaxNodeValue.{values, node_of}
use Rattle.c_tree.proofs.SyntaxShapes.{Added, no_more, more_expr, more_typename, more_spec, more_qualifier, more_specs, more_members, more_member, more_enumerator, more_declarator, more_suffix, more_parameters, more_parameter, more_initializer, more_braces, more_item, more_designator, more_declaration, more_initdeclarator, more_assertion, more_statement, more_blockitem, more_block, more_external, more_unit, Shape, of_word, of_rule, of_nothing, of_both, of_left, of_right, of_none, of_one, of_end, of_turn, of_first, of_second, of_last, of_again}
use Rattle.c_tree.proofs.SyntaxSorting.{made_sorted}
use Rattle.c_tree.specs.SyntaxSorts.{Sort, UnitSort, Sorted, sort_of, sorted_nothing, sorted_expr, sorted_typename, sorted_spec, sorted_qualifier, sorted_specs, sorted_members, sorted_member, sorted_enumerator, sorted_declarator, sorted_suffix, sorted_parameters, sorted_parameter, sorted_initializer, sorted_braces, sorted_item, sorted_designator, sorted_declaration, sorted_initdeclarator, sorted_assertion, sorted_statement, sorted_blockitem, sorted_block, sorted_external, sorted_unit, AreTokens}
use Rattle.model_grammar.specs.SyntaxTree.{c_language}
use Rattle.model_grammar.specs.TerminalsOf.{terminals_from, terminals_of}
use Rattle.model_grammar.specs.SyntaxValues.{Meaning, Value, token_value, meanings, without_attributes}

-- the meanings of symbols, attributes left out
abbrev pub shown : List Value → List Meaning
shown vs = meanings (without_attributes vs)

word_shape : {ks : List ℕ} {a : Act} (o : Option CTok) (c : CTok) (tail : List Value) → o ≡ Some c → Shape (word ks a) (shown (token_value o ∷ tail)) (shown tail)
word_shape (Some c) d tail e = of_word _ _ _
word_shape None d tail e = absurd cc

added : {S : Sort} (m : Meaning) (span : Option Span) (tail : List Value) → Sorted S m → Added S (shown (record { meaning = m; tokens = span } ∷ tail)) (shown tail)
added m span tail sorted_nothing = no_more
added m span tail (sorted_expr x) = more_expr x
added m span tail (sorted_typename x) = more_typename x
added m span tail (sorted_spec x) = more_spec x
added m span tail (sorted_qualifier x) = more_qualifier x
added m span tail (sorted_specs x) = more_specs x
added m span tail (sorted_members x) = more_members x
added m span tail (sorted_member x) = more_member x
added m span tail (sorted_enumerator x) = more_enumerator x
added m span tail (sorted_declarator x) = more_declarator x
added m span tail (sorted_suffix x) = more_suffix x
added m span tail (sorted_parameters x) = more_parameters x
added m span tail (sorted_parameter x) = more_parameter x
added m span tail (sorted_initializer x) = more_initializer x
added m span tail (sorted_braces x) = more_braces x
added m span tail (sorted_item x) = more_item x
added m span tail (sorted_designator x) = more_designator x
added m span tail (sorted_declaration x) = more_declaration x
added m span tail (sorted_initdeclarator x) = more_initdeclarator x
added m span tail (sorted_assertion x) = more_assertion x
added m span tail (sorted_statement x) = more_statement x
added m span tail (sorted_blockitem x) = more_blockitem x
added m span tail (sorted_block x) = more_block x
added m span tail (sorted_external x) = more_external x
added m span tail (sorted_unit x) = more_unit x

append_none : (vs : List Value) → vs ++ [] ≡ vs
append_none [] = refl
append_none (v ∷ vs) = ap (λ rest. v ∷ rest) (append_none vs)

values_behind : (tokens : List CTok) (xs ys : List Tree) (tail : List Value) → values tokens (xs ++ ys) ++ tail ≡ values tokens xs ++ (values tokens ys ++ tail)
values_behind tokens [] ys tail = refl
values_behind tokens (x ∷ xs) ys tail = ap (λ rest. value_of tokens x ∷ rest) (values_behind tokens xs ys tail)

values_split : (tokens : List CTok) (xs ys zs : List Tree) (tail : List Value) → zs ≡ xs ++ ys → values tokens zs ++ tail ≡ values tokens xs ++ (values tokens ys ++ tail)
values_split tokens xs ys zs tail e = ap (λ z. values tokens z ++ tail) e ∙ values_behind tokens xs ys tail

pub record Shaped (tokens : List CTok) (f : Form) (xs : List Tree) (rest : List Terminal) : Type 0 where
  pub are : AreTokens tokens rest
  pub shape : (tail : List Value) → Shape f (shown (values tokens xs ++ tail)) (shown tail)

-- the symbols of a nonterminal's right side make a form of its sort
whole : (tokens : List CTok) (x : Rule) (xs : List Tree) → Shape (c_language.body x) (shown (values tokens xs ++ [])) [] → Sorted (sort_of x) (node_value x (values tokens xs)).meaning
whole tokens x xs h = made_sorted x _ _ (rw (sym (append_none (values tokens xs))) (h))

value_shape : {x : Rule} (v w : Value) (tail : List Value) → v ≡ w → Shape (rule x) (shown (w ∷ tail)) (shown tail) → Shape (rule x) (shown (v ∷ tail)) (shown tail)
value_shape {x} v w tail e h = subst (λ u. Shape (rule x) (shown (u ∷ tail)) (shown tail)) (sym e) h

rule_shaped : {tokens : List CTok} {x : Rule} {xs : List Tree} {rest : List Terminal} → Shaped tokens (c_language.body x) xs rest → Shaped tokens (rule x) (c_language.node x xs ∷ []) rest
rule_shaped {tokens} {x} {xs} h = record { are = h.are; shape = λ tail. value_shape _ _ tail (node_of tokens x xs) (of_rule (added (node_value x (values tokens xs)).meaning (node_value x (values tokens xs)).tokens tail (whole tokens x xs (h.shape [])))) }

two_shaped : {tokens : List CTok} {f g h : Form} {xs ys zs : List Tree} {mid rest : List Terminal} → ((all some others : List Meaning) → Shape f all some → Shape g some others → Shape h all others) → Shaped tokens f xs mid → Shaped tokens g ys rest → zs ≡ xs ++ ys → Shaped tokens h zs rest
two_shaped {tokens} {f} {g} {h} {xs} {ys} {zs} join x y e = record { are = y.are; shape = λ tail. subst (λ vs. Shape h (shown vs) (shown tail)) (sym (values_split tokens xs ys zs tail e)) (join _ _ _ (x.shape (values tokens ys ++ tail)) (y.shape tail)) }

-- what a derivation makes has the shape of its form
pub shaped : (tokens : List CTok) {f : Form} {s new : Scopes} {ts rest : List Terminal} {xs : List Tree} → AreTokens tokens ts → Derives c_language f s ts xs new rest → Shaped tokens f xs rest
shaped tokens are (Derives.a_word e) = record { are = are.1; shape = λ tail. word_shape _ are.0.0 tail are.0.1 }
shaped tokens are (Derives.a_rule d) = rule_shaped (shaped tokens are d)
shaped tokens are Derives.nothing = record { are = are; shape = λ tail. of_nothing }
shaped tokens are (Derives.both d e h) = let x = shaped tokens are d in two_shaped (λ all some others p q. of_both p q) x (shaped tokens x.are e) h
shaped tokens are (Derives.left d) = let x = shaped tokens are d in record { are = x.are; shape = λ tail. of_left (x.shape tail) }
shaped tokens are (Derives.right d) = let x = shaped tokens are d in record { are = x.are; shape = λ tail. of_right (x.shape tail) }
shaped tokens are Derives.skip = record { are = are; shape = λ tail. of_none }
shaped tokens are (Derives.take d) = let x = shaped tokens are d in record { are = x.are; shape = λ tail. of_one (x.shape tail) }
shaped tokens are Derives.stop = record { are = are; shape = λ tail. of_end }
shaped tokens are (Derives.turn d e h) = let x = shaped tokens are d in two_shaped (λ all some others p q. of_turn p q) x (shaped tokens x.are e) h
shaped tokens are (Derives.chosen b d) = let x = shaped tokens are d in record { are = x.are; shape = λ tail. of_first (x.shape tail) }
shaped tokens are (Derives.other b d) = let x = shaped tokens are d in record { are = x.are; shape = λ tail. of_second (x.shape tail) }
shaped tokens are (Derives.done b) = record { are = are; shape = λ tail. of_last }
shaped tokens are (Derives.again b d e h) = let x = shaped tokens are d in two_shaped (λ all some others p q. of_again p q) x (shaped tokens x.are e) h

sorted_shape : {tokens : List CTok} {rest : List Terminal} (x : Rule) (xs : List Tree) → Shaped tokens (c_language.body x) xs rest → Sorted (sort_of x) (value_of tokens (c_language.node x xs)).meaning
sorted_shape {tokens} x xs h = subst (λ v. Sorted (sort_of x) v.meaning) (sym (node_of tokens x xs)) (whole tokens x xs (h.shape []))

-- the tree of a nonterminal stands for a form of its sort
pub derived_sorted : (tokens : List CTok) {x : Rule} {s new : Scopes} {ts rest : List Terminal} {t : Tree} → AreTokens tokens ts → Derives c_language (rule x) s ts (t ∷ []) new rest → Sorted (sort_of x) (value_of tokens t).meaning
derived_sorted tokens are (Derives.a_rule d) = sorted_shape _ _ (shaped tokens are d)

-- the tokens of a list are tokens of it

at_length : (front : List CTok) (t : CTok) (ts : List CTok) → slice_get (front ++ t ∷ ts) (length front) ≡ Some t
at_length [] t ts = refl
at_length (x ∷ front) t ts = at_length front t ts

one_longer : (front : List CTok) (t : CTok) → length (front ++ t ∷ []) ≡ length front + 1
one_longer [] t = refl
one_longer (x ∷ front) t = omega (arith, one_longer front t)

at_rank : (all front : List CTok) (t : CTok) (ts : List CTok) (rank : ℕ) → all ≡ front ++ t ∷ ts → rank ≡ length front → slice_get all rank ≡ Some t
at_rank all front t ts rank e h = ap (λ xs. slice_get xs rank) e ∙ ap (slice_get (front ++ t ∷ ts)) h ∙ at_length front t ts

tokens_from : (all front ts : List CTok) (rank : ℕ) → all ≡ front ++ ts → rank ≡ length front → AreTokens all (terminals_from all rank ts)
tokens_from all front [] rank e h = tt
tokens_from all front (t ∷ ts) rank e h = ((t, at_rank all front t ts rank e h), tokens_from all (front ++ t ∷ []) ts (rank + 1) (e ∙ sym (append_assoc front (t ∷ []) ts)) (omega (arith, h, one_longer front t)))

pub are_tokens : (tokens : List CTok) → AreTokens tokens (terminals_of tokens)
are_tokens tokens = tokens_from tokens [] tokens 0 refl refl

is_unit : (m : Meaning) → Sorted UnitSort m → IsSome (unit_in m)
is_unit m (sorted_unit externals) = refl

-- the tree of a whole list of tokens stands for a unit
pub derived_unit : (tokens : List CTok) {new : Scopes} {t : Tree} → Derives c_language (rule r.Unit) start (terminals_of tokens) (t ∷ []) new [] → IsSome (tree_of tokens t)
derived_unit tokens d = is_unit _ (derived_sorted tokens (are_tokens tokens) d)
