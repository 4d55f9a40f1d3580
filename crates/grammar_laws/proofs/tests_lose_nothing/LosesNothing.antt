-- What it is for the tests of one production to lose nothing.
use Rattle.std.proofs.Common.{◌≡◌, ℕ, Bool, true, false, not, ◌&&◌, ◌||◌, List, [], refl}
use mathlib.Core.Logic.{inl, inr}
use Rattle.model_grammar.specs.declared.grammar.Rule.{Rule}
use Rattle.model_grammar.specs.declared.grammar.Terminal.{Terminal}
use Rattle.model_grammar.specs.declared.grammar.Tree.{Tree}
use Rattle.model_grammar.specs.GrammarForm.{Form, rule, mem}
use Rattle.model_grammar.specs.NameScopes.{Scopes}
use Rattle.model_grammar.specs.Derivation.{Derives, Begins}
use Rattle.model_grammar.specs.Grammar.{grammar}
use Rattle.grammar_laws.specs.FirstTokens.{first, nullable}
use Rattle.grammar_laws.specs.apparatus.DecidedTable.{within}
use Rattle.grammar_laws.specs.ParserWalk.{ahead}
use Rattle.grammar_laws.specs.ParserTable.{table}
use Rattle.grammar_laws.specs.ParserSets.{tables, firsts, follows, hollow}
use Rattle.grammar_laws.specs.ParserTests.{parsed}
use Rattle.grammar_laws.proofs.kinds.KindSets.{and_right, clash}
use Rattle.grammar_laws.proofs.walks.DecidedDerivations.{step}
use Rattle.grammar_laws.proofs.walks.ParserDecided.{quiet, checked}
use Rattle.grammar_laws.proofs.derivations.ClearBrackets.{is_balanced}

-- no bracket is held open where b says so
abbrev pub Clear : Bool → Scopes → Type 0
Clear b s = b ≡ true → s.brackets ≡ []

-- the form derives these tokens, as some trees
pub record IsDerived (f : Form) (s : Scopes) (ts : List Terminal) (new : Scopes) (rest : List Terminal) : Type 0 where
  pub trees : List Tree
  pub is : Derives parsed f s ts trees new rest

-- of one production: what the form of the grammar derives before what may follow, and begins, that of the parser does
pub record TestsLoseNothing (n : Rule) : Type 0 where
  pub derived : (s new : Scopes) (ts rest : List Terminal) (xs : List Tree) → Clear (not (is_balanced n)) s → Derives parsed (grammar n) s ts xs new rest
      → mem (ahead tables parsed new rest) (follows n) ≡ true → IsDerived (table n) s ts new rest
  pub begun : (s : Scopes) (ts rest : List Terminal) → Clear (not (is_balanced n)) s → Begins parsed (grammar n) s ts rest → Begins parsed (table n) s ts rest

-- a nonterminal that takes a token begins with one of its first tokens
pub begins_with : {n : Rule} {s new : Scopes} {ts rest : List Terminal} {xs : List Tree} → hollow n ≡ false → Derives parsed (rule n) s ts xs new rest
    → mem (ahead tables parsed s ts) (firsts n) ≡ true
unfolding nullable first
begins_with h d = elim (step tables parsed quiet checked d) [
  | inl m ↦ m.begun
  | inr m ↦ absurd (clash _ m.hollow h)
]

-- likewise a form
pub starts : {f : Form} {s new : Scopes} {ts rest : List Terminal} {xs : List Tree} → nullable tables f ≡ false → Derives parsed f s ts xs new rest
    → mem (ahead tables parsed s ts) (first tables f) ≡ true
starts h d = elim (step tables parsed quiet checked d) [
  | inl m ↦ m.begun
  | inr m ↦ absurd (clash _ m.hollow h)
]

pub steady : (b c : Bool) → (not b || c) ≡ true → b ≡ true → c ≡ true
steady true c h e = h
steady false c h e = absurd (cc)

into : (b c : Bool) → (b || c) ≡ true → not c ≡ true → b ≡ true
into true c h n = refl
into false true h n = absurd (cc)
into false false h n = h

pub inner : (n : Rule) (F : List ℕ) (b : Bool) (s : Scopes) → (within tables F (follows n) && (b || is_balanced n)) ≡ true → Clear b s → Clear (not (is_balanced n)) s
inner n F b s w c e = c (into b (is_balanced n) (and_right (within tables F (follows n)) (b || is_balanced n) w) e)
