-- The value that is left behind a unit is that of its one tree.
use Rattle.std.proofs.Common.{◌≡◌, true, List, [], ◌∷◌, ◌++◌, refl, sym, ap, ◌∙◌}
use Rattle.model_grammar.specs.declared.grammar.Rule.{Rule}
use Rattle.model_grammar.specs.declared.grammar.Terminal.{Terminal}
use Rattle.model_grammar.specs.declared.grammar.Tree.{Tree}
use Rattle.model_tokens.specs.declared.tokens.CTok.{CTok}
use Rattle.model_grammar.specs.GrammarForm.{rule}
use Rattle.model_grammar.specs.NameScopes.{Scopes}
use Rattle.grammar_laws.specs.ParserSets.{tables}
use Rattle.grammar_laws.specs.ParserTests.{parsed}
use Rattle.grammar_laws.specs.ParserWalk.{Reads}
use Rattle.model_grammar.specs.SyntaxActions.{value_of}
use Rattle.model_grammar.specs.SyntaxValues as spec
use Rattle.syntax_meanings.specs.declared.meanings.Value.{Value}
use Rattle.syntax_meanings.specs.Meanings.{value_seen, values_seen}
use Rattle.c_parser.specs.Parsing.{IsUnitValue, IsUnitRead}
use Rattle.c_parser.specs.TreeValues.{values}

-- a nonterminal is read as one tree
pub record IsOne (xs : List Tree) : Type 0 where
  pub tree : Tree
  pub only : xs ≡ tree ∷ []

pub one_tree : {n : Rule} {s new : Scopes} {ts rest : List Terminal} {xs : List Tree} → Reads tables parsed (rule n) s ts xs new rest → IsOne xs
one_tree (Reads.a_rule {r = r} {xs = xs} d) = record { tree = parsed.node r xs; only = refl }

-- the last of one
last_seen : (vs : List Value) (v : Value) (x : spec.Value) → values_seen (vs ++ v ∷ []) ≡ x ∷ [] → value_seen v ≡ x
last_seen [] v x e = cc
last_seen (w ∷ []) v x e = absurd (cc)
last_seen (w ∷ u ∷ vs) v x e = absurd (cc)

pub unit_value : (tokens : List CTok) (ts : List Terminal) (vs rest : List Value) (v : Value) → IsUnitRead tokens ts true vs → vs ≡ rest ++ v ∷ [] → IsUnitValue tokens ts v
unit_value tokens ts vs rest v u p = record { tree = u.tree; derived = u.derived; stands = last_seen rest v (value_of tokens u.tree) (ap values_seen (sym p) ∙ u.put) }

pub not_none : (tokens : List CTok) (ts : List Terminal) (vs : List Value) → IsUnitRead tokens ts true vs → vs ≡ [] → ⊥
not_none tokens ts vs u p = let q : values_seen [] ≡ values tokens (u.tree ∷ []) = ap values_seen (sym p) ∙ u.put in absurd (cc)
