-- The test of a parenthesized expression loses nothing.
use Rattle.std.proofs.Common.{◌≡◌, Bool, true, false, not, ◌&&◌, List, [], ◌∷◌, refl, sym, ap, subst}
use Rattle.std.specs.Prelude.{◌==◌}
use mathlib.Core.Logic.{inl, inr}
use Rattle.model_grammar.specs.declared.grammar.Rule.TheVariants as r
use Rattle.model_grammar.specs.declared.grammar.Act.TheVariants as act
use Rattle.model_grammar.specs.declared.grammar.Terminal.{Terminal}
use Rattle.model_grammar.specs.declared.grammar.Tree.{Tree}
use Rattle.model_grammar.specs.declared.grammar.Test.TheVariants as test
use Rattle.model_grammar.specs.GrammarForm.{Form, rule, when, ◌then◌, ◌or◌, mem}
use Rattle.model_grammar.specs.Grammar.{grammar, token}
use Rattle.model_grammar.specs.Terminals as k
use Rattle.model_grammar.specs.NameScopes.{Scopes, kind, after}
use Rattle.model_grammar.specs.Derivation.{Derives, Begins}
use Rattle.grammar_laws.specs.FirstTokens.{first}
use Rattle.grammar_laws.specs.apparatus.DecidedTable.{within, apart}
use Rattle.grammar_laws.specs.ParserWalk.{ahead}
use Rattle.grammar_laws.specs.ParserTable.{table}
use Rattle.grammar_laws.specs.ParserSets.{tables, firsts, hollow}
use Rattle.grammar_laws.specs.ParserTests.{parsed, passes, begins_type, sees_type_name}
use Rattle.grammar_laws.proofs.kinds.KindSets.{apart_mem, within_mem, clash}
use Rattle.grammar_laws.proofs.walks.DecidedDerivations.{entry}
use Rattle.grammar_laws.proofs.walks.ParserDecided.{quiet, checked}
use Rattle.grammar_laws.proofs.kinds.TokenKinds.{is_it, decide}
use Rattle.grammar_laws.proofs.tests_lose_nothing.LosesNothing.{TestsLoseNothing, begins_with}

expressions_are_no_types : apart tables (firsts r.Expr) (firsts r.Squals) ≡ true
unfolding apart mem firsts
expressions_are_no_types = refl

type_names_are_types : within tables (firsts r.Typename) (firsts r.Squals) ≡ true
unfolding within mem firsts
type_names_are_types = refl

and_false : (a b : Bool) → b ≡ false → (a && b) ≡ false
and_false true b h = h
and_false false b h = refl

-- behind `(` an expression comes, and no type name
pub no_type : (s : Scopes) (t : Terminal) (us : List Terminal) → mem (ahead tables parsed (after act.Pass s t) us) (firsts r.Expr) ≡ true → not (sees_type_name s (t ∷ us)) ≡ true
unfolding ahead
no_type s t [] h = refl
no_type s t (u ∷ vs) h =
    let n = decide (begins_type s u) (λ e. apart_mem tables (kind (after act.Pass s t) u) (firsts r.Expr) (firsts r.Squals) expressions_are_no_types h e) in
    ap not (and_false (t.kind == k.OpenParenthesis) (begins_type s u) n)

pub opens : (s : Scopes) (t : Terminal) → mem (kind s t) (k.OpenParenthesis ∷ []) ≡ true → (t.kind == k.OpenParenthesis) ≡ true
unfolding mem
opens s t h = is_it k.OpenParenthesis (refl, refl, refl, refl, refl) s t h

-- behind `(` a type name comes
pub type_seen : (s : Scopes) (t : Terminal) (us : List Terminal) → mem (kind s t) (k.OpenParenthesis ∷ []) ≡ true
    → mem (ahead tables parsed (after act.Pass s t) us) (firsts r.Typename) ≡ true → sees_type_name s (t ∷ us) ≡ true
unfolding ahead mem firsts
type_seen s t [] e h = absurd (clash _ h refl)
type_seen s t (u ∷ vs) e h = rw (opens s t e, within_mem tables (kind (after act.Pass s t) u) (firsts r.Typename) (firsts r.Squals) type_names_are_types h) refl

pub sees_type : (s : Scopes) (t : Terminal) (us : List Terminal) → mem (kind s t) (k.OpenParenthesis ∷ []) ≡ true
    → mem (ahead tables parsed (after act.Pass s t) us) (firsts r.Typename) ≡ true → not (sees_type_name s (t ∷ us)) ≡ false
sees_type s t us e h = ap not (type_seen s t us e h)

-- the parenthesis of a primary expression
abbrev pub parenthesis : Form
parenthesis = when test.ParenthesizedExpression (token k.OpenParenthesis then rule r.Expr then token k.CloseParenthesis) (rule r.Literal)

derived : (s new : Scopes) (ts rest : List Terminal) (xs : List Tree) → Derives parsed (grammar r.Primary) s ts xs new rest → Derives parsed (table r.Primary) s ts xs new rest
unfolding grammar table hollow
derived s new ts rest xs (Derives.left d) = Derives.left d
derived s new ts rest xs (Derives.right (Derives.left d)) = Derives.right (Derives.left d)
derived s new ts rest xs (Derives.right (Derives.right (Derives.left d))) = Derives.right (Derives.right (Derives.left d))
derived s new ts rest xs (Derives.right (Derives.right (Derives.right (Derives.left d)))) = Derives.right (Derives.right (Derives.right (Derives.left d)))
derived s new ts rest xs (Derives.right (Derives.right (Derives.right (Derives.right (Derives.left (Derives.both (Derives.a_word {t = t} {ts = us} e) (Derives.both d c q) p)))))) =
    Derives.right (Derives.right (Derives.right (Derives.right (Derives.chosen (no_type s t us (begins_with refl d)) (Derives.both (Derives.a_word e) (Derives.both d c q) p)))))
derived s new ts rest xs (Derives.right (Derives.right (Derives.right (Derives.right (Derives.right (Derives.a_rule (Derives.both (Derives.a_word {t = t} {ts = us} e) (Derives.both d c q) p))))))) =
    Derives.right (Derives.right (Derives.right (Derives.right (Derives.other (sees_type s t us e (begins_with refl d)) (Derives.a_rule (Derives.both (Derives.a_word e) (Derives.both d c q) p))))))

-- where only the parenthesis is read, both alternatives are begun by it
pub only_parenthesis : {s : Scopes} {t : Terminal} {us : List Terminal} (b : Bool) → passes test.ParenthesizedExpression s (t ∷ us) ≡ b
    → mem (kind s t) (k.OpenParenthesis ∷ []) ≡ true → Begins parsed parenthesis s (t ∷ us) us
unfolding table
only_parenthesis true b e = Begins.in_chosen b (Begins.in_first (Begins.in_word e))
only_parenthesis false b e = Begins.in_other b (Begins.in_rule (Begins.in_first (Begins.in_word e)))

expression : {s : Scopes} {t : Terminal} {us rest : List Terminal} → mem (kind s t) (k.OpenParenthesis ∷ []) ≡ true
    → Begins parsed (rule r.Expr) (after act.Pass s t) us rest → Begins parsed parenthesis s (t ∷ us) rest
unfolding first
expression {s = s} {t = t} {us = us} {rest = rest} e d = elim (entry tables parsed quiet checked d) [
  | inl m ↦ Begins.in_chosen (no_type s t us m.begun) (Begins.in_then (Derives.a_word e) (Begins.in_first d))
  | inr h ↦ subst (λ z. Begins parsed parenthesis s (t ∷ us) z) (sym h) (only_parenthesis (passes test.ParenthesizedExpression s (t ∷ us)) refl e)
]

pub type_name : {s : Scopes} {t : Terminal} {us rest : List Terminal} → mem (kind s t) (k.OpenParenthesis ∷ []) ≡ true
    → Begins parsed (rule r.Typename) (after act.Pass s t) us rest → Begins parsed parenthesis s (t ∷ us) rest
unfolding first table
type_name {s = s} {t = t} {us = us} {rest = rest} e d = elim (entry tables parsed quiet checked d) [
  | inl m ↦ Begins.in_other (sees_type s t us e m.begun) (Begins.in_rule (Begins.in_then (Derives.a_word e) (Begins.in_first d)))
  | inr h ↦ subst (λ z. Begins parsed parenthesis s (t ∷ us) z) (sym h) (only_parenthesis (passes test.ParenthesizedExpression s (t ∷ us)) refl e)
]

either : {s : Scopes} {ts rest : List Terminal}
    → Begins parsed (token k.OpenParenthesis then rule r.Expr then token k.CloseParenthesis or rule r.Literal) s ts rest → Begins parsed parenthesis s ts rest
unfolding table hollow
either Begins.yet = Begins.yet
either (Begins.in_left Begins.yet) = Begins.yet
either (Begins.in_left (Begins.in_first Begins.yet)) = Begins.yet
either (Begins.in_left (Begins.in_first (Begins.in_word {s = s} {t = t} {ts = us} e))) = only_parenthesis (passes test.ParenthesizedExpression s (t ∷ us)) refl e
either (Begins.in_left (Begins.in_then (Derives.a_word {s = s} {t = t} {ts = us} e) Begins.yet)) = only_parenthesis (passes test.ParenthesizedExpression s (t ∷ us)) refl e
either (Begins.in_left (Begins.in_then (Derives.a_word e) (Begins.in_first d))) = expression e d
either (Begins.in_left (Begins.in_then (Derives.a_word {s = s} {t = t} {ts = us} e) (Begins.in_then d d'))) =
    Begins.in_chosen (no_type s t us (begins_with refl d)) (Begins.in_then (Derives.a_word e) (Begins.in_then d d'))
either (Begins.in_right Begins.yet) = Begins.yet
either (Begins.in_right (Begins.in_rule Begins.yet)) = Begins.yet
either (Begins.in_right (Begins.in_rule (Begins.in_first Begins.yet))) = Begins.yet
either (Begins.in_right (Begins.in_rule (Begins.in_first (Begins.in_word {s = s} {t = t} {ts = us} e)))) = only_parenthesis (passes test.ParenthesizedExpression s (t ∷ us)) refl e
either (Begins.in_right (Begins.in_rule (Begins.in_then (Derives.a_word {s = s} {t = t} {ts = us} e) Begins.yet))) = only_parenthesis (passes test.ParenthesizedExpression s (t ∷ us)) refl e
either (Begins.in_right (Begins.in_rule (Begins.in_then (Derives.a_word e) (Begins.in_first d)))) = type_name e d
either (Begins.in_right (Begins.in_rule (Begins.in_then (Derives.a_word {s = s} {t = t} {ts = us} e) (Begins.in_then d d')))) =
    Begins.in_other (sees_type s t us e (begins_with refl d)) (Begins.in_rule (Begins.in_then (Derives.a_word e) (Begins.in_then d d')))

begun : (s : Scopes) (ts rest : List Terminal) → Begins parsed (grammar r.Primary) s ts rest → Begins parsed (table r.Primary) s ts rest
unfolding grammar table hollow
begun s ts rest Begins.yet = Begins.yet
begun s ts rest (Begins.in_left d) = Begins.in_left d
begun s ts rest (Begins.in_right Begins.yet) = Begins.yet
begun s ts rest (Begins.in_right (Begins.in_left d)) = Begins.in_right (Begins.in_left d)
begun s ts rest (Begins.in_right (Begins.in_right Begins.yet)) = Begins.yet
begun s ts rest (Begins.in_right (Begins.in_right (Begins.in_left d))) = Begins.in_right (Begins.in_right (Begins.in_left d))
begun s ts rest (Begins.in_right (Begins.in_right (Begins.in_right Begins.yet))) = Begins.yet
begun s ts rest (Begins.in_right (Begins.in_right (Begins.in_right (Begins.in_left d)))) = Begins.in_right (Begins.in_right (Begins.in_right (Begins.in_left d)))
begun s ts rest (Begins.in_right (Begins.in_right (Begins.in_right (Begins.in_right d)))) = Begins.in_right (Begins.in_right (Begins.in_right (Begins.in_right (either d))))

pub primary : TestsLoseNothing r.Primary
primary = record { derived = λ s new ts rest xs c d h. record { trees = xs; is = derived s new ts rest xs d }; begun = λ s ts rest c d. begun s ts rest d }
