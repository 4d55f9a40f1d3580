-- Enumerators begin with an identifier that is no typedef name, and members of a structure don't.
use Rattle.std.proofs.Common.{◌≡◌, ℕ, true, false, List, [], ◌∷◌, refl, subst}
use Rattle.std.proofs.lemmas.Bool.{eqb-true, eq-eqb}
use Rattle.std.specs.Prelude.{◌==◌}
use mathlib.Core.Logic.{inl, inr, ◌⊎◌}
use Rattle.model_grammar.specs.declared.grammar.Rule.TheVariants as r
use Rattle.model_grammar.specs.declared.grammar.Terminal.{Terminal}
use Rattle.model_grammar.specs.declared.grammar.Tree.{Tree}
use Rattle.model_grammar.specs.GrammarForm.{rule, mem}
use Rattle.model_grammar.specs.NameScopes.{Scopes, kind}
use Rattle.model_grammar.specs.Derivation.{Derives, Begins}
use Rattle.model_grammar.specs.Terminals as k
use Rattle.grammar_laws.specs.FirstTokens.{first}
use Rattle.grammar_laws.specs.ParserWalk.{ahead}
use Rattle.grammar_laws.specs.ParserSets.{tables, firsts, hollow}
use Rattle.grammar_laws.specs.ParserTests.{parsed, sees_name}
use Rattle.grammar_laws.proofs.kinds.KindSets.{clash, one_mem}
use Rattle.grammar_laws.proofs.kinds.TokenKinds.{decide}
use Rattle.grammar_laws.proofs.walks.DecidedDerivations.{entry}
use Rattle.grammar_laws.proofs.walks.ParserDecided.{quiet, checked}
use Rattle.grammar_laws.proofs.tests_lose_nothing.LosesNothing.{begins_with}

pub named : (s : Scopes) (ts : List Terminal) → mem (ahead tables parsed s ts) (firsts r.Enumr) ≡ true → sees_name s ts ≡ true
unfolding ahead firsts mem
named s [] h = absurd (cc)
named s (t ∷ ts) h = let q : kind s t ≡ k.Name = one_mem (kind s t) k.Name h in eq-eqb (kind s t) k.Name q

pub unnamed : (F : List ℕ) (s : Scopes) (ts : List Terminal) → mem k.Name F ≡ false → mem (ahead tables parsed s ts) F ≡ true → sees_name s ts ≡ false
unfolding ahead
unnamed F s [] n h = refl
unnamed F s (t ∷ ts) n h = decide (kind s t == k.Name) (λ e. let q : kind s t ≡ k.Name = eqb-true (kind s t) k.Name e in clash (mem k.Name F) (subst (λ z. mem z F ≡ true) q h) n)

pub enumerator_named : {s new : Scopes} {ts rest : List Terminal} {xs : List Tree} → Derives parsed (rule r.Enumr) s ts xs new rest → sees_name s ts ≡ true
unfolding hollow
enumerator_named {s = s} {ts = ts} d = named s ts (begins_with refl d)

pub enumerator_named_begun : {s : Scopes} {ts rest : List Terminal} → Begins parsed (rule r.Enumr) s ts rest → (sees_name s ts ≡ true) ⊎ (rest ≡ ts)
unfolding first
enumerator_named_begun {s = s} {ts = ts} d = elim (entry tables parsed quiet checked d) [
  | inl m ↦ inl (named s ts m.begun)
  | inr q ↦ inr q
]

pub member_unnamed : {s new : Scopes} {ts rest : List Terminal} {xs : List Tree} → Derives parsed (rule r.Member) s ts xs new rest → sees_name s ts ≡ false
unfolding hollow firsts mem
member_unnamed {s = s} {ts = ts} d = unnamed (firsts r.Member) s ts refl (begins_with refl d)

pub member_unnamed_begun : {s : Scopes} {ts rest : List Terminal} → Begins parsed (rule r.Member) s ts rest → (sees_name s ts ≡ false) ⊎ (rest ≡ ts)
unfolding first firsts mem
member_unnamed_begun {s = s} {ts = ts} d = elim (entry tables parsed quiet checked d) [
  | inl m ↦ inl (unnamed (firsts r.Member) s ts refl m.begun)
  | inr q ↦ inr q
]
