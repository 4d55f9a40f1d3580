-- The test of a parenthesis round an abstract declarator loses nothing.
use Rattle.std.proofs.Common.{◌≡◌, Bool, true, false, not, ◌&&◌, ◌||◌, List, [], ◌∷◌, refl, sym, subst}
use Rattle.std.proofs.lemmas.Bool.{eqb-true}
use Rattle.std.specs.Prelude.{◌==◌}
use mathlib.Core.Logic.{◌⊎◌, inl, inr}
use Rattle.model_grammar.specs.declared.grammar.Rule.TheVariants as r
use Rattle.model_grammar.specs.declared.grammar.Act.TheVariants as act
use Rattle.model_grammar.specs.declared.grammar.Terminal.{Terminal}
use Rattle.model_grammar.specs.declared.grammar.Tree.{Tree}
use Rattle.model_grammar.specs.declared.grammar.Test.TheVariants as test
use Rattle.model_grammar.specs.GrammarForm.{Form, word, rule, when, maybe, loop, ◌then◌, ◌or◌, mem}
use Rattle.model_grammar.specs.Grammar.{grammar}
use Rattle.model_grammar.specs.Terminals as k
use Rattle.model_grammar.specs.NameScopes.{Scopes, kind, after}
use Rattle.model_grammar.specs.Derivation.{Derives, Begins}
use Rattle.grammar_laws.specs.FirstTokens.{nullable, first}
use Rattle.grammar_laws.specs.ParserWalk.{ahead}
use Rattle.grammar_laws.specs.ParserTable.{table}
use Rattle.grammar_laws.specs.ParserSets.{tables, firsts, hollow}
use Rattle.grammar_laws.specs.ParserTests.{parsed, opens_abstract, sees_abstract, sees}
use Rattle.grammar_laws.proofs.kinds.KindSets.{clash}
use Rattle.grammar_laws.proofs.walks.DecidedDerivations.{step, entry}
use Rattle.grammar_laws.proofs.walks.ParserDecided.{quiet, checked}
use Rattle.grammar_laws.proofs.kinds.TokenKinds.{is_it, absent, shown}
use Rattle.grammar_laws.proofs.tests_lose_nothing.LosesNothing.{TestsLoseNothing, begins_with}

-- no token is read, or a `[` alone
pub data IsLittle : List Terminal → List Terminal → Type 0 where
  unread : {ts : List Terminal} → IsLittle ts ts
  bracket : {t : Terminal} {ts : List Terminal} → (t.kind == k.OpenBracket) ≡ true → IsLittle (t ∷ ts) ts

pub is_parenthesis : (s : Scopes) (t : Terminal) → mem (kind s t) (k.OpenParenthesis ∷ []) ≡ true → (t.kind == k.OpenParenthesis) ≡ true
unfolding mem
is_parenthesis s t h = is_it k.OpenParenthesis (refl, refl, refl, refl, refl) s t h

is_bracket : (s : Scopes) (t : Terminal) → mem (kind s t) (k.OpenBracket ∷ []) ≡ true → (t.kind == k.OpenBracket) ≡ true
unfolding mem
is_bracket s t h = is_it k.OpenBracket (refl, refl, refl, refl, refl) s t h

is_star : (s : Scopes) (t : Terminal) → mem (kind s t) (k.Star ∷ []) ≡ true → (t.kind == k.Star) ≡ true
unfolding mem
is_star s t h = is_it k.Star (refl, refl, refl, refl, refl) s t h

pub bracket_shown : (s : Scopes) (t : Terminal) → (t.kind == k.OpenBracket) ≡ true → mem (kind s t) (k.OpenBracket ∷ []) ≡ true
unfolding mem
bracket_shown s t h = shown k.OpenBracket refl refl refl s t h

-- an abstract declarator comes next: one of its first tokens, and no attribute
abbrev pub Opens : List Terminal → Type 0
Opens [] = ⊥
Opens (u ∷ []) = opens_abstract u.kind true ≡ true
Opens (u ∷ v ∷ ts) = opens_abstract u.kind (not (v.kind == k.OpenBracket)) ≡ true

abbrev pub Shuts : List Terminal → Type 0
Shuts [] = Unit {0}
Shuts (u ∷ []) = opens_abstract u.kind true ≡ false
Shuts (u ∷ v ∷ ts) = opens_abstract u.kind (not (v.kind == k.OpenBracket)) ≡ false

by_star : (u : Terminal) (ts : List Terminal) → (u.kind == k.Star) ≡ true → Opens (u ∷ ts)
by_star u [] h = rw h refl
by_star u (v ∷ ts) h = rw h refl

or_true : (a b : Bool) → ((a || true) || b) ≡ true
or_true true b = refl
or_true false b = refl

by_parenthesis : (u : Terminal) (ts : List Terminal) → (u.kind == k.OpenParenthesis) ≡ true → Opens (u ∷ ts)
by_parenthesis u [] h = rw h (or_true (u.kind == k.Star) _)
by_parenthesis u (v ∷ ts) h = rw h (or_true (u.kind == k.Star) _)

by_bracket : (u : Terminal) (ts : List Terminal) → (u.kind == k.OpenBracket) ≡ true → sees k.OpenBracket ts ≡ false → Opens (u ∷ ts)
by_bracket u [] h n = let q : u.kind ≡ k.OpenBracket = eqb-true u.kind k.OpenBracket h in rw q refl
by_bracket u (v ∷ ts) h n = let q : u.kind ≡ k.OpenBracket = eqb-true u.kind k.OpenBracket h in rw (q, n) refl

-- in the brackets of an array no `[` comes first
abbrev pub array : Form
array = maybe (rule r.Cond) then word (k.CloseBracket ∷ []) act.CloseArray then loop test.AttributeAhead (rule r.Attr)

pub no_bracket : (s : Scopes) (ts : List Terminal) → mem (ahead tables parsed s ts) (first tables array) ≡ true → sees k.OpenBracket ts ≡ false
unfolding first nullable ahead firsts mem
no_bracket s [] h = refl
no_bracket s (t ∷ ts) h = absent (first tables array) k.OpenBracket refl refl refl refl s t h

pub array_moves : nullable tables array ≡ false
unfolding nullable
array_moves = refl

pub in_array : {s new : Scopes} {ts rest : List Terminal} {xs : List Tree} → Derives parsed array s ts xs new rest → sees k.OpenBracket ts ≡ false
in_array {s = s} d = elim (step tables parsed quiet checked d) [
  | inl m ↦ no_bracket s _ m.begun
  | inr m ↦ absurd (clash _ m.hollow array_moves)
]

pub abstract_opens : {s new : Scopes} {ts rest : List Terminal} {xs : List Tree} → Derives parsed (rule r.Abstract) s ts xs new rest → Opens ts
unfolding table
abstract_opens {s = s} (Derives.a_rule (Derives.left (Derives.both (Derives.a_word {t = t} e) d p))) = by_star t _ (is_star s t e)
abstract_opens {s = s} (Derives.a_rule (Derives.right (Derives.a_rule (Derives.both (Derives.chosen b (Derives.both (Derives.a_word {t = t} e) d p)) m q)))) = by_parenthesis t _ (is_parenthesis s t e)
abstract_opens {s = s} (Derives.a_rule (Derives.right (Derives.a_rule (Derives.both (Derives.other b (Derives.a_rule (Derives.left (Derives.both (Derives.a_word {t = t} e) d p)))) m q)))) = by_bracket t _ (is_bracket s t e) (in_array d)
abstract_opens {s = s} (Derives.a_rule (Derives.right (Derives.a_rule (Derives.both (Derives.other b (Derives.a_rule (Derives.right (Derives.both (Derives.a_word {t = t} e) d p)))) m q)))) = by_parenthesis t _ (is_parenthesis s t e)

-- parameters, or none
abbrev pub listed : Form
listed = maybe (rule r.Params) then word (k.CloseParenthesis ∷ []) act.CloseParameters then loop test.AttributeAhead (rule r.Attr)

shut_by : (u : Terminal) (ts : List Terminal) → (u.kind == k.Star) ≡ false → (u.kind == k.OpenParenthesis) ≡ false → (u.kind == k.OpenBracket) ≡ false → Shuts (u ∷ ts)
shut_by u [] a b c = rw (a, b, c) refl
shut_by u (v ∷ ts) a b c = rw (a, b, c) refl

at_close : (s : Scopes) (u : Terminal) (ts : List Terminal) → mem (kind s u) (k.CloseParenthesis ∷ []) ≡ true → Shuts (u ∷ ts)
unfolding mem
at_close s u ts e =
    shut_by u ts (absent (k.CloseParenthesis ∷ []) k.Star refl refl refl refl s u e) (absent (k.CloseParenthesis ∷ []) k.OpenParenthesis refl refl refl refl s u e)
    (absent (k.CloseParenthesis ∷ []) k.OpenBracket refl refl refl refl s u e)

at_specifiers : (s : Scopes) (ts : List Terminal) → mem (ahead tables parsed s ts) (firsts r.ParamSpecs) ≡ true → Shuts ts
unfolding ahead firsts mem
at_specifiers s [] h = tt
at_specifiers s (u ∷ ts) h =
    shut_by u ts (absent (firsts r.ParamSpecs) k.Star refl refl refl refl s u h) (absent (firsts r.ParamSpecs) k.OpenParenthesis refl refl refl refl s u h)
    (absent (firsts r.ParamSpecs) k.OpenBracket refl refl refl refl s u h)

two_brackets : (s s' : Scopes) (u v : Terminal) (ts : List Terminal) → mem (kind s u) (k.OpenBracket ∷ []) ≡ true → mem (kind s' v) (k.OpenBracket ∷ []) ≡ true → Shuts (u ∷ v ∷ ts)
two_brackets s s' u v ts e e' =
    let q : u.kind ≡ k.OpenBracket = eqb-true u.kind k.OpenBracket (is_bracket s u e) in let p : v.kind ≡ k.OpenBracket = eqb-true v.kind k.OpenBracket (is_bracket s' v e') in rw (q, p) refl

pub attribute_shuts : {s new : Scopes} {ts rest : List Terminal} {xs : List Tree} → Derives parsed (rule r.Attr) s ts xs new rest → Shuts ts
unfolding table
attribute_shuts {s = s} (Derives.a_rule (Derives.both (Derives.a_word {t = u} e) (Derives.both (Derives.a_word {t = v} {ts = ws} e') d p) q)) = two_brackets s (after act.Keep s u) u v ws e e'

parameter_shuts : {s new : Scopes} {ts rest : List Terminal} {xs : List Tree} → Derives parsed (rule r.Param) s ts xs new rest → Shuts ts
unfolding table hollow
parameter_shuts {s = s} (Derives.a_rule (Derives.both (Derives.a_rule Derives.stop) (Derives.both d m p) q)) = at_specifiers s _ (begins_with refl d)
parameter_shuts (Derives.a_rule (Derives.both (Derives.a_rule (Derives.turn d e z)) m q)) = attribute_shuts d

listed_shuts : {s new : Scopes} {ts rest : List Terminal} {xs : List Tree} → Derives parsed listed s ts xs new rest → Shuts ts
unfolding table
listed_shuts {s = s} (Derives.both Derives.skip (Derives.both (Derives.a_word {t = u} e) d p) q) = at_close s u _ e
listed_shuts (Derives.both (Derives.take (Derives.a_rule (Derives.both d m p))) c q) = parameter_shuts d

pub test_true : (t : Terminal) (us : List Terminal) → (t.kind == k.OpenParenthesis) ≡ true → Opens us → sees_abstract (t ∷ us) ≡ true
test_true t [] e h = absurd h
test_true t (u ∷ []) e h = rw (e, h) refl
test_true t (u ∷ v ∷ ts) e h = rw (e, h) refl

and_false : (b : Bool) → (b && false) ≡ false
and_false true = refl
and_false false = refl

test_false : (t : Terminal) (us : List Terminal) → Shuts us → sees_abstract (t ∷ us) ≡ false
test_false t [] h = refl
test_false t (u ∷ []) h = rw h (and_false (t.kind == k.OpenParenthesis))
test_false t (u ∷ v ∷ ts) h = rw h (and_false (t.kind == k.OpenParenthesis))

pub closed : (t : Terminal) (us : List Terminal) → (t.kind == k.OpenParenthesis) ≡ false → sees_abstract (t ∷ us) ≡ false
closed t [] h = refl
closed t (u ∷ []) h = rw h refl
closed t (u ∷ v ∷ ts) h = rw h refl

pub by_array : (s : Scopes) (t : Terminal) (us : List Terminal) → mem (kind s t) (k.OpenBracket ∷ []) ≡ true → sees_abstract (t ∷ us) ≡ false
unfolding mem
by_array s t us e = closed t us (absent (k.OpenBracket ∷ []) k.OpenParenthesis refl refl refl refl s t e)

-- the choice, and the two between which it is
abbrev pub inner : Form
inner = word (k.OpenParenthesis ∷ []) act.OpenDeclarator then rule r.Abstract then word (k.CloseParenthesis ∷ []) act.CloseDeclarator

abbrev pub choice : Form
choice = when test.AbstractAhead inner (rule r.Suffix)

pub choice_derived : {s new : Scopes} {ts rest : List Terminal} {xs : List Tree} → Derives parsed (inner or rule r.Suffix) s ts xs new rest → Derives parsed choice s ts xs new rest
unfolding table
choice_derived {s = s} (Derives.left (Derives.both (Derives.a_word {t = t} {ts = us} e) (Derives.both d c p) q)) =
    Derives.chosen (test_true t us (is_parenthesis s t e) (abstract_opens d)) (Derives.both (Derives.a_word e) (Derives.both d c p) q)
choice_derived {s = s} (Derives.right (Derives.a_rule (Derives.left (Derives.both (Derives.a_word {t = t} {ts = us} e) d p)))) =
    Derives.other (by_array s t us e) (Derives.a_rule (Derives.left (Derives.both (Derives.a_word e) d p)))
choice_derived {s = s} (Derives.right (Derives.a_rule (Derives.right (Derives.both (Derives.a_word {t = t} {ts = us} e) d p)))) =
    Derives.other (test_false t us (listed_shuts d)) (Derives.a_rule (Derives.right (Derives.both (Derives.a_word e) d p)))

pub suffix_begun : {s : Scopes} {ts rest : List Terminal} → Begins parsed (rule r.Suffix) s ts rest → Opens ts ⊎ IsLittle ts rest
unfolding table
suffix_begun Begins.yet = inr IsLittle.unread
suffix_begun (Begins.in_rule Begins.yet) = inr IsLittle.unread
suffix_begun (Begins.in_rule (Begins.in_left Begins.yet)) = inr IsLittle.unread
suffix_begun (Begins.in_rule (Begins.in_left (Begins.in_first Begins.yet))) = inr IsLittle.unread
suffix_begun {s = s} (Begins.in_rule (Begins.in_left (Begins.in_first (Begins.in_word {t = t} e)))) = inr (IsLittle.bracket (is_bracket s t e))
suffix_begun {s = s} (Begins.in_rule (Begins.in_left (Begins.in_then (Derives.a_word {t = t} {ts = us} e) d))) = elim (entry tables parsed quiet checked d) [
  | inl m ↦ inl (by_bracket t us (is_bracket s t e) (no_bracket _ us m.begun))
  | inr h ↦ inr (subst (λ z. IsLittle (t ∷ us) z) (sym h) (IsLittle.bracket (is_bracket s t e)))
]
suffix_begun (Begins.in_rule (Begins.in_right Begins.yet)) = inr IsLittle.unread
suffix_begun (Begins.in_rule (Begins.in_right (Begins.in_first Begins.yet))) = inr IsLittle.unread
suffix_begun {s = s} (Begins.in_rule (Begins.in_right (Begins.in_first (Begins.in_word {t = t} e)))) = inl (by_parenthesis t _ (is_parenthesis s t e))
suffix_begun {s = s} (Begins.in_rule (Begins.in_right (Begins.in_then (Derives.a_word {t = t} e) d))) = inl (by_parenthesis t _ (is_parenthesis s t e))

pub abstract_begun : {s : Scopes} {ts rest : List Terminal} → Begins parsed (rule r.Abstract) s ts rest → Opens ts ⊎ IsLittle ts rest
unfolding table
abstract_begun Begins.yet = inr IsLittle.unread
abstract_begun (Begins.in_rule Begins.yet) = inr IsLittle.unread
abstract_begun (Begins.in_rule (Begins.in_left Begins.yet)) = inr IsLittle.unread
abstract_begun (Begins.in_rule (Begins.in_left (Begins.in_first Begins.yet))) = inr IsLittle.unread
abstract_begun {s = s} (Begins.in_rule (Begins.in_left (Begins.in_first (Begins.in_word {t = t} e)))) = inl (by_star t _ (is_star s t e))
abstract_begun {s = s} (Begins.in_rule (Begins.in_left (Begins.in_then (Derives.a_word {t = t} e) d))) = inl (by_star t _ (is_star s t e))
abstract_begun (Begins.in_rule (Begins.in_right Begins.yet)) = inr IsLittle.unread
abstract_begun (Begins.in_rule (Begins.in_right (Begins.in_rule Begins.yet))) = inr IsLittle.unread
abstract_begun (Begins.in_rule (Begins.in_right (Begins.in_rule (Begins.in_first Begins.yet)))) = inr IsLittle.unread
abstract_begun (Begins.in_rule (Begins.in_right (Begins.in_rule (Begins.in_first (Begins.in_chosen b Begins.yet))))) = inr IsLittle.unread
abstract_begun (Begins.in_rule (Begins.in_right (Begins.in_rule (Begins.in_first (Begins.in_chosen b (Begins.in_first Begins.yet)))))) = inr IsLittle.unread
abstract_begun {s = s} (Begins.in_rule (Begins.in_right (Begins.in_rule (Begins.in_first (Begins.in_chosen b (Begins.in_first (Begins.in_word {t = t} e))))))) = inl (by_parenthesis t _ (is_parenthesis s t e))
abstract_begun {s = s} (Begins.in_rule (Begins.in_right (Begins.in_rule (Begins.in_first (Begins.in_chosen b (Begins.in_then (Derives.a_word {t = t} e) d)))))) = inl (by_parenthesis t _ (is_parenthesis s t e))
abstract_begun (Begins.in_rule (Begins.in_right (Begins.in_rule (Begins.in_first (Begins.in_other b d))))) = suffix_begun d
abstract_begun {s = s} (Begins.in_rule (Begins.in_right (Begins.in_rule (Begins.in_then (Derives.chosen b (Derives.both (Derives.a_word {t = t} e) d p)) c)))) = inl (by_parenthesis t _ (is_parenthesis s t e))
abstract_begun {s = s} (Begins.in_rule (Begins.in_right (Begins.in_rule (Begins.in_then (Derives.other b (Derives.a_rule (Derives.left (Derives.both (Derives.a_word {t = t} e) d p)))) c)))) = inl (by_bracket t _ (is_bracket s t e) (in_array d))
abstract_begun {s = s} (Begins.in_rule (Begins.in_right (Begins.in_rule (Begins.in_then (Derives.other b (Derives.a_rule (Derives.right (Derives.both (Derives.a_word {t = t} e) d p)))) c)))) = inl (by_parenthesis t _ (is_parenthesis s t e))

pub attribute_begun : {s : Scopes} {ts rest : List Terminal} → Begins parsed (rule r.Attr) s ts rest → Shuts ts ⊎ IsLittle ts rest
unfolding table
attribute_begun Begins.yet = inr IsLittle.unread
attribute_begun (Begins.in_rule Begins.yet) = inr IsLittle.unread
attribute_begun (Begins.in_rule (Begins.in_first Begins.yet)) = inr IsLittle.unread
attribute_begun {s = s} (Begins.in_rule (Begins.in_first (Begins.in_word {t = t} e))) = inr (IsLittle.bracket (is_bracket s t e))
attribute_begun {s = s} (Begins.in_rule (Begins.in_then (Derives.a_word {t = t} e) Begins.yet)) = inr (IsLittle.bracket (is_bracket s t e))
attribute_begun {s = s} (Begins.in_rule (Begins.in_then (Derives.a_word {t = t} e) (Begins.in_first Begins.yet))) = inr (IsLittle.bracket (is_bracket s t e))
attribute_begun {s = s} (Begins.in_rule (Begins.in_then (Derives.a_word {t = t} e) (Begins.in_first (Begins.in_word {t = u} {ts = ws} e')))) = inl (two_brackets s (after act.Keep s t) t u ws e e')
attribute_begun {s = s} (Begins.in_rule (Begins.in_then (Derives.a_word {t = t} e) (Begins.in_then (Derives.a_word {t = u} {ts = ws} e') d))) = inl (two_brackets s (after act.Keep s t) t u ws e e')

pub parameter_begun : {s : Scopes} {ts rest : List Terminal} → Begins parsed (rule r.Param) s ts rest → Shuts ts ⊎ IsLittle ts rest
unfolding table first nullable hollow
parameter_begun Begins.yet = inr IsLittle.unread
parameter_begun (Begins.in_rule Begins.yet) = inr IsLittle.unread
parameter_begun (Begins.in_rule (Begins.in_first Begins.yet)) = inr IsLittle.unread
parameter_begun (Begins.in_rule (Begins.in_first (Begins.in_rule Begins.yet))) = inr IsLittle.unread
parameter_begun (Begins.in_rule (Begins.in_first (Begins.in_rule (Begins.in_turn d)))) = attribute_begun d
parameter_begun (Begins.in_rule (Begins.in_first (Begins.in_rule (Begins.in_later d e)))) = inl (attribute_shuts d)
parameter_begun (Begins.in_rule (Begins.in_then (Derives.a_rule (Derives.turn d e p)) m)) = inl (attribute_shuts d)
parameter_begun (Begins.in_rule (Begins.in_then (Derives.a_rule Derives.stop) Begins.yet)) = inr IsLittle.unread
parameter_begun {s = s} {ts = ts} (Begins.in_rule (Begins.in_then (Derives.a_rule Derives.stop) (Begins.in_first d))) = elim (entry tables parsed quiet checked d) [
  | inl m ↦ inl (at_specifiers s ts m.begun)
  | inr h ↦ inr (subst (λ z. IsLittle ts z) (sym h) IsLittle.unread)
]
parameter_begun {s = s} {ts = ts} (Begins.in_rule (Begins.in_then (Derives.a_rule Derives.stop) (Begins.in_then d e))) = inl (at_specifiers s ts (begins_with refl d))

pub listed_begun : {s : Scopes} {ts rest : List Terminal} → Begins parsed listed s ts rest → Shuts ts ⊎ IsLittle ts rest
unfolding table
listed_begun Begins.yet = inr IsLittle.unread
listed_begun (Begins.in_first Begins.yet) = inr IsLittle.unread
listed_begun (Begins.in_first (Begins.in_maybe Begins.yet)) = inr IsLittle.unread
listed_begun (Begins.in_first (Begins.in_maybe (Begins.in_rule Begins.yet))) = inr IsLittle.unread
listed_begun (Begins.in_first (Begins.in_maybe (Begins.in_rule (Begins.in_first d)))) = parameter_begun d
listed_begun (Begins.in_first (Begins.in_maybe (Begins.in_rule (Begins.in_then d e)))) = inl (parameter_shuts d)
listed_begun (Begins.in_then Derives.skip Begins.yet) = inr IsLittle.unread
listed_begun (Begins.in_then Derives.skip (Begins.in_first Begins.yet)) = inr IsLittle.unread
listed_begun {s = s} (Begins.in_then Derives.skip (Begins.in_first (Begins.in_word {t = t} e))) = inl (at_close s t _ e)
listed_begun {s = s} (Begins.in_then Derives.skip (Begins.in_then (Derives.a_word {t = t} e) d)) = inl (at_close s t _ e)
listed_begun (Begins.in_then (Derives.take (Derives.a_rule (Derives.both d m p))) e) = inl (parameter_shuts d)

-- where only the parenthesis is read, both are begun by it
pub only_parenthesis : {s : Scopes} {t : Terminal} {us : List Terminal} (b : Bool) → sees_abstract (t ∷ us) ≡ b → mem (kind s t) (k.OpenParenthesis ∷ []) ≡ true → Begins parsed choice s (t ∷ us) us
unfolding table
only_parenthesis true b e = Begins.in_chosen b (Begins.in_first (Begins.in_word e))
only_parenthesis false b e = Begins.in_other b (Begins.in_rule (Begins.in_right (Begins.in_first (Begins.in_word e))))

pub no_parenthesis : (u : Terminal) → (u.kind == k.OpenBracket) ≡ true → (u.kind == k.OpenParenthesis) ≡ false
no_parenthesis u h = let q : u.kind ≡ k.OpenBracket = eqb-true u.kind k.OpenBracket h in rw q refl

-- likewise where `[` is read behind it
and_bracket : {s : Scopes} {t u : Terminal} {us : List Terminal} (b : Bool) → sees_abstract (t ∷ u ∷ us) ≡ b → mem (kind s t) (k.OpenParenthesis ∷ []) ≡ true
    → (u.kind == k.OpenBracket) ≡ true → Begins parsed choice s (t ∷ u ∷ us) us
unfolding table
and_bracket {s = s} {t = t} {u = u} {us = us} true b e h =
    Begins.in_chosen b
    (Begins.in_then (Derives.a_word e) (Begins.in_first (Begins.in_rule (Begins.in_right (Begins.in_rule (Begins.in_first (Begins.in_other (closed u us (no_parenthesis u h)) (Begins.in_rule (Begins.in_left (Begins.in_first (Begins.in_word (bracket_shown (after act.OpenDeclarator s t) u h))))))))))))
and_bracket {s = s} {t = t} {u = u} false b e h =
    Begins.in_other b
    (Begins.in_rule (Begins.in_right (Begins.in_then (Derives.a_word e) (Begins.in_first (Begins.in_maybe (Begins.in_rule (Begins.in_first (Begins.in_rule (Begins.in_first (Begins.in_rule (Begins.in_turn (Begins.in_rule (Begins.in_first (Begins.in_word (bracket_shown (after act.OpenParameters s t) u h)))))))))))))))

pub little : {s : Scopes} {t : Terminal} {us rest : List Terminal} → mem (kind s t) (k.OpenParenthesis ∷ []) ≡ true → IsLittle us rest → Begins parsed choice s (t ∷ us) rest
little {t = t} {us = us} e IsLittle.unread = only_parenthesis (sees_abstract (t ∷ us)) refl e
little {t = t} {us = us} e (IsLittle.bracket h) = and_bracket (sees_abstract (t ∷ us)) refl e h

pub choice_begun : {s : Scopes} {ts rest : List Terminal} → Begins parsed (inner or rule r.Suffix) s ts rest → Begins parsed choice s ts rest
unfolding table
choice_begun Begins.yet = Begins.yet
choice_begun (Begins.in_left Begins.yet) = Begins.yet
choice_begun (Begins.in_left (Begins.in_first Begins.yet)) = Begins.yet
choice_begun (Begins.in_left (Begins.in_first (Begins.in_word e))) = little e IsLittle.unread
choice_begun (Begins.in_left (Begins.in_then (Derives.a_word e) Begins.yet)) = little e IsLittle.unread
choice_begun {s = s} (Begins.in_left (Begins.in_then (Derives.a_word {t = t} {ts = us} e) (Begins.in_first d))) = elim (abstract_begun d) [
  | inl h ↦ Begins.in_chosen (test_true t us (is_parenthesis s t e) h) (Begins.in_then (Derives.a_word e) (Begins.in_first d))
  | inr h ↦ little e h
]
choice_begun {s = s} (Begins.in_left (Begins.in_then (Derives.a_word {t = t} {ts = us} e) (Begins.in_then d c))) =
    Begins.in_chosen (test_true t us (is_parenthesis s t e) (abstract_opens d)) (Begins.in_then (Derives.a_word e) (Begins.in_then d c))
choice_begun (Begins.in_right Begins.yet) = Begins.yet
choice_begun (Begins.in_right (Begins.in_rule Begins.yet)) = Begins.yet
choice_begun (Begins.in_right (Begins.in_rule (Begins.in_left Begins.yet))) = Begins.yet
choice_begun (Begins.in_right (Begins.in_rule (Begins.in_left (Begins.in_first Begins.yet)))) = Begins.yet
choice_begun {s = s} (Begins.in_right (Begins.in_rule (Begins.in_left (Begins.in_first (Begins.in_word {t = t} {ts = us} e))))) =
    Begins.in_other (by_array s t us e) (Begins.in_rule (Begins.in_left (Begins.in_first (Begins.in_word e))))
choice_begun {s = s} (Begins.in_right (Begins.in_rule (Begins.in_left (Begins.in_then (Derives.a_word {t = t} {ts = us} e) d)))) =
    Begins.in_other (by_array s t us e) (Begins.in_rule (Begins.in_left (Begins.in_then (Derives.a_word e) d)))
choice_begun (Begins.in_right (Begins.in_rule (Begins.in_right Begins.yet))) = Begins.yet
choice_begun (Begins.in_right (Begins.in_rule (Begins.in_right (Begins.in_first Begins.yet)))) = Begins.yet
choice_begun (Begins.in_right (Begins.in_rule (Begins.in_right (Begins.in_first (Begins.in_word e))))) = little e IsLittle.unread
choice_begun {s = s} (Begins.in_right (Begins.in_rule (Begins.in_right (Begins.in_then (Derives.a_word {t = t} {ts = us} e) d)))) = elim (listed_begun d) [
  | inl h ↦ Begins.in_other (test_false t us h) (Begins.in_rule (Begins.in_right (Begins.in_then (Derives.a_word e) d)))
  | inr h ↦ little e h
]

derived : (s new : Scopes) (ts rest : List Terminal) (xs : List Tree) → Derives parsed (grammar r.Adirect) s ts xs new rest → Derives parsed (table r.Adirect) s ts xs new rest
unfolding grammar table
derived s new ts rest xs (Derives.both d m p) = Derives.both (choice_derived d) m p

begun : (s : Scopes) (ts rest : List Terminal) → Begins parsed (grammar r.Adirect) s ts rest → Begins parsed (table r.Adirect) s ts rest
unfolding grammar table
begun s ts rest Begins.yet = Begins.yet
begun s ts rest (Begins.in_first d) = Begins.in_first (choice_begun d)
begun s ts rest (Begins.in_then d e) = Begins.in_then (choice_derived d) e

pub abstract_declarator : TestsLoseNothing r.Adirect
abstract_declarator = record { derived = λ s new ts rest xs c d h. record { trees = xs; is = derived s new ts rest xs d }; begun = λ s ts rest c d. begun s ts rest d }
