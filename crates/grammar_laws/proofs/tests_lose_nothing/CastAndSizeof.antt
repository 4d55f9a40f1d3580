-- The tests of a type name in parentheses, as a cast or behind `sizeof`, lose nothing.
use Rattle.std.proofs.Common.{◌≡◌, ℕ, suc, ◌+◌, length, Bool, true, false, not, ◌&&◌, List, [], ◌∷◌, refl, sym, ap, subst, ◌∙◌}
use Rattle.std.specs.Prelude.{◌==◌}
use mathlib.Core.Logic.{◌⊎◌, inl, inr}
use Rattle.model_grammar.specs.declared.grammar.Rule.{Rule}
use Rattle.model_grammar.specs.declared.grammar.Rule.TheVariants as r
use Rattle.model_grammar.specs.declared.grammar.Act.TheVariants as act
use Rattle.model_grammar.specs.declared.grammar.Test.TheVariants as test
use Rattle.model_grammar.specs.declared.grammar.Terminal.{Terminal}
use Rattle.model_grammar.specs.declared.grammar.Tree.{Tree}
use Rattle.model_grammar.specs.GrammarForm.{Form, word, rule, when, ◌then◌, ◌or◌, mem}
use Rattle.model_grammar.specs.Grammar.{grammar, token}
use Rattle.model_grammar.specs.Terminals as k
use Rattle.model_grammar.specs.NameScopes.{Scopes, kind, after}
use Rattle.model_grammar.specs.Derivation.{Derives, Begins}
use Rattle.grammar_laws.specs.FirstTokens.{nullable, first}
use Rattle.grammar_laws.specs.apparatus.DecidedTable.{within}
use Rattle.grammar_laws.specs.ParserWalk.{ahead}
use Rattle.grammar_laws.specs.ParserTable.{table}
use Rattle.grammar_laws.specs.ParserSets.{tables, firsts, follows, hollow}
use Rattle.grammar_laws.specs.ParserTests.{parsed, passes, sees, sees_cast, sees_type_name, past_brackets}
use Rattle.grammar_laws.proofs.kinds.KindSets.{within_mem, clash}
use Rattle.grammar_laws.proofs.walks.DecidedDerivations.{entry}
use Rattle.grammar_laws.proofs.walks.ParserDecided.{quiet, checked}
use Rattle.grammar_laws.proofs.kinds.TokenKinds.{is_it, absent}
use Rattle.grammar_laws.proofs.derivations.ClearBrackets.{is_balanced, closing, at_closing}
use Rattle.grammar_laws.proofs.kinds.BracketKinds.{opening, opening_kind, closing_kind}
use Rattle.grammar_laws.proofs.derivations.BalancedForms.{even, level, passes_over, over_opening, last_closing}
use Rattle.grammar_laws.proofs.scans.BehindAttributes.{missing}
use Rattle.grammar_laws.proofs.tests_lose_nothing.ParenthesizedExpression.{parenthesis, only_parenthesis, type_name, type_seen, sees_type}
use Rattle.grammar_laws.proofs.tests_lose_nothing.LosesNothing.{TestsLoseNothing, begins_with, starts}

-- a type name in parentheses, and a cast
abbrev type_operand : Form
type_operand = token k.OpenParenthesis then rule r.Typename then token k.CloseParenthesis

abbrev cast : Form
cast = token k.OpenParenthesis then rule r.Typename then token k.CloseParenthesis then rule r.Cast

type_name_even : even (rule r.Typename) 0 ≡ true
unfolding even
type_name_even = refl

type_name_level : level (rule r.Typename) 0 ≡ 0
unfolding level
type_name_level = refl

closes_by : (s : Scopes) (t : Terminal) → mem (kind s t) (k.CloseParenthesis ∷ []) ≡ true → mem (kind s t) closing ≡ true
unfolding within mem
closes_by s t h = within_mem tables (kind s t) (k.CloseParenthesis ∷ []) closing refl h

opens_by : (s : Scopes) (t : Terminal) → mem (kind s t) (k.OpenParenthesis ∷ []) ≡ true → mem (kind s t) opening ≡ true
unfolding within mem
opens_by s t h = within_mem tables (kind s t) (k.OpenParenthesis ∷ []) opening refl h

-- the scan finds the closing parenthesis of a type name
scanned : (s : Scopes) (t : Terminal) {mid : Scopes} {v : Terminal} {us vs : List Terminal} {xs : List Tree} → s.brackets ≡ []
    → mem (kind s t) (k.OpenParenthesis ∷ []) ≡ true → Derives parsed (rule r.Typename) (after act.Pass s t) us xs mid (v ∷ vs)
    → mem (kind mid v) (k.CloseParenthesis ∷ []) ≡ true → past_brackets 0 (t ∷ us) ≡ vs
scanned s t {mid = mid} {v = v} {us = us} {vs = vs} c e d w =
    let p = (passes_over d 0 type_name_even).at 0 in
    let b = at_closing mid v (closes_by mid v w) in
    let p' : past_brackets 1 us ≡ past_brackets 1 (v ∷ vs) =
    subst (λ z. past_brackets (suc (0 + (0 + length z))) us ≡ past_brackets 1 (v ∷ vs)) c
    (subst (λ z. past_brackets (suc (0 + (0 + length s.brackets))) us ≡ past_brackets (suc (0 + (0 + length z))) (v ∷ vs)) b (subst (λ z. past_brackets (suc (0 + (0 + length s.brackets))) us ≡ past_brackets (suc (0 + (z + length mid.brackets))) (v ∷ vs)) type_name_level p)) in
    over_opening 0 1 t us (opening_kind s t (opens_by s t e)) refl ∙ (p' ∙ last_closing v vs (closing_kind mid v (closes_by mid v w)))

-- it is a cast unless `{` follows
pub by_what_follows : (s : Scopes) (t : Terminal) {mid : Scopes} {v : Terminal} {us vs : List Terminal} {xs : List Tree} (b : Bool) → s.brackets ≡ []
    → mem (kind s t) (k.OpenParenthesis ∷ []) ≡ true → Derives parsed (rule r.Typename) (after act.Pass s t) us xs mid (v ∷ vs)
    → mem (kind mid v) (k.CloseParenthesis ∷ []) ≡ true → sees k.OpenBrace vs ≡ b → sees_cast s (t ∷ us) ≡ not b
unfolding hollow
by_what_follows s t {us = us} b c e d w h =
    let p : sees k.OpenBrace (past_brackets 0 (t ∷ us)) ≡ b = ap (λ z. sees k.OpenBrace z) (scanned s t c e d w) ∙ h in
    rw (type_seen s t us e (begins_with refl d), p) refl

brace_seen : (n : Rule) → firsts n ≡ k.OpenBrace ∷ [] → (s : Scopes) (ts : List Terminal) → mem (ahead tables parsed s ts) (firsts n) ≡ true → sees k.OpenBrace ts ≡ true
unfolding ahead mem
brace_seen n q s [] h = absurd (clash _ (subst (λ F. mem 0 F ≡ true) q h) refl)
brace_seen n q s (t ∷ ts) h = is_it k.OpenBrace (refl, refl, refl, refl, refl) s t (subst (λ F. mem (kind s t) F ≡ true) q h)

block_brace : firsts r.Block ≡ k.OpenBrace ∷ []
unfolding firsts
block_brace = refl

braces_brace : firsts r.Braces ≡ k.OpenBrace ∷ []
unfolding firsts
braces_brace = refl

pub no_brace : (s : Scopes) (ts : List Terminal) → mem (ahead tables parsed s ts) (firsts r.Cast) ≡ true → sees k.OpenBrace ts ≡ false
unfolding firsts mem
no_brace s ts h = missing (firsts r.Cast) k.OpenBrace refl refl refl refl s ts h

-- without a parenthesis it is none
no_parenthesis : (s : Scopes) (t : Terminal) (us : List Terminal) → (t.kind == k.OpenParenthesis) ≡ false → sees_cast s (t ∷ us) ≡ false
no_parenthesis s t [] h = refl
no_parenthesis s t (u ∷ us) h = rw h refl

elsewhere : (F : List ℕ) → mem k.OpenParenthesis F ≡ false → mem k.Closing F ≡ false → mem k.Stray F ≡ false → (s : Scopes) (ts : List Terminal)
    → mem (ahead tables parsed s ts) F ≡ true → sees_cast s ts ≡ false
unfolding ahead
elsewhere F a b c s [] h = refl
elsewhere F a b c s (t ∷ us) h = no_parenthesis s t us (absent F k.OpenParenthesis refl a b c s t h)

no_type : (s : Scopes) (ts : List Terminal) → not (sees_type_name s ts) ≡ true → sees_cast s ts ≡ false
no_type s ts h = by (sees_type_name s ts) h
  where
    by : (b : Bool) → not b ≡ true → (b && not (sees k.OpenBrace (past_brackets 0 ts))) ≡ false
    by true h = absurd (cc)
    by false h = refl

abbrev behind_type : Form
behind_type = when test.HasParameters (rule r.Block) (rule r.Braces)

literal_brace : {s new : Scopes} {ts rest : List Terminal} {xs : List Tree} → Derives parsed behind_type s ts xs new rest → sees k.OpenBrace ts ≡ true
unfolding hollow
literal_brace {s = s} {ts = ts} (Derives.chosen b d) = brace_seen r.Block block_brace s ts (begins_with refl d)
literal_brace {s = s} {ts = ts} (Derives.other b d) = brace_seen r.Braces braces_brace s ts (begins_with refl d)

primary_no_cast : {s new : Scopes} {ts rest : List Terminal} {xs : List Tree} → s.brackets ≡ [] → Derives parsed (rule r.Primary) s ts xs new rest → sees_cast s ts ≡ false
unfolding table mem
primary_no_cast {s = s} c (Derives.a_rule (Derives.left (Derives.a_word {t = t} {ts = us} e))) = no_parenthesis s t us (absent (k.Name ∷ []) k.OpenParenthesis refl refl refl refl s t e)
primary_no_cast {s = s} c (Derives.a_rule (Derives.right (Derives.left (Derives.a_word {t = t} {ts = us} e)))) =
    no_parenthesis s t us (absent (k.Integer ∷ []) k.OpenParenthesis refl refl refl refl s t e)
primary_no_cast {s = s} c (Derives.a_rule (Derives.right (Derives.right (Derives.left (Derives.a_word {t = t} {ts = us} e))))) =
    no_parenthesis s t us (absent (k.StringLiteral ∷ []) k.OpenParenthesis refl refl refl refl s t e)
primary_no_cast {s = s} c (Derives.a_rule (Derives.right (Derives.right (Derives.right (Derives.left (Derives.a_word {t = t} {ts = us} e)))))) =
    no_parenthesis s t us (absent (k.True ∷ k.False ∷ k.Nullptr ∷ []) k.OpenParenthesis refl refl refl refl s t e)
primary_no_cast {s = s} {ts = ts} c (Derives.a_rule (Derives.right (Derives.right (Derives.right (Derives.right (Derives.chosen b d)))))) = no_type s ts b
primary_no_cast {s = s} c (Derives.a_rule (Derives.right (Derives.right (Derives.right (Derives.right (Derives.other b (Derives.a_rule (Derives.both (Derives.a_word {t = t} e) (Derives.both d (Derives.both (Derives.a_word w) x q) p) z)))))))) = by_what_follows s t true c e d w (literal_brace x)

postfix_no_cast : {s new : Scopes} {ts rest : List Terminal} {xs : List Tree} → s.brackets ≡ [] → Derives parsed (rule r.Postfix) s ts xs new rest → sees_cast s ts ≡ false
unfolding table
postfix_no_cast c (Derives.a_rule (Derives.both d m q)) = primary_no_cast c d

-- what a unary expression is but a postfix one
abbrev prefixes : Form
prefixes =
    word (k.PlusPlus ∷ k.MinusMinus ∷ []) act.Pass then rule r.Unary or word
    (k.Ampersand ∷ k.Star ∷ k.Plus ∷ k.Minus ∷ k.Tilde ∷ k.Exclamation ∷ []) act.Pass then rule r.Cast or token k.Sizeof then when test.OperandAhead
    (rule r.Unary) type_operand or word (k.Alignof ∷ k.OldAlignof ∷ []) act.Pass then token k.OpenParenthesis then rule r.Typename then token k.CloseParenthesis

prefixes_move : nullable tables prefixes ≡ false
unfolding nullable hollow
prefixes_move = refl

by_prefix : (s : Scopes) (ts : List Terminal) → mem (ahead tables parsed s ts) (first tables prefixes) ≡ true → sees_cast s ts ≡ false
unfolding first nullable hollow firsts mem
by_prefix s ts h = elsewhere (first tables prefixes) refl refl refl s ts h

pub unary_no_cast : {s new : Scopes} {ts rest : List Terminal} {xs : List Tree} → s.brackets ≡ [] → Derives parsed (rule r.Unary) s ts xs new rest → sees_cast s ts ≡ false
unfolding table
unary_no_cast c (Derives.a_rule (Derives.left d)) = postfix_no_cast c d
unary_no_cast {s = s} {ts = ts} c (Derives.a_rule (Derives.right d)) = by_prefix s ts (starts prefixes_move d)

-- a unary expression by the parenthesis of a literal
in_unary : {s : Scopes} {ts rest : List Terminal} → Begins parsed parenthesis s ts rest → Begins parsed (rule r.Unary) s ts rest
unfolding table
in_unary d = Begins.in_rule (Begins.in_left (Begins.in_rule (Begins.in_first (Begins.in_rule (Begins.in_right (Begins.in_right (Begins.in_right (Begins.in_right d))))))))

clash_of : (b : Bool) → b ≡ false → b ≡ true → ⊥
clash_of b p q = cc

-- where no cast is seen, what a cast begins a literal does
as_unary : {s : Scopes} {ts rest : List Terminal} → s.brackets ≡ [] → sees_cast s ts ≡ false → Begins parsed cast s ts rest → Begins parsed (rule r.Unary) s ts rest
unfolding hollow table first nullable
as_unary c n Begins.yet = Begins.yet
as_unary c n (Begins.in_first Begins.yet) = Begins.yet
as_unary {s = s} c n (Begins.in_first (Begins.in_word {t = t} {ts = us} e)) = in_unary (only_parenthesis (passes test.ParenthesizedExpression s (t ∷ us)) refl e)
as_unary {s = s} c n (Begins.in_then (Derives.a_word {t = t} {ts = us} e) Begins.yet) = in_unary (only_parenthesis (passes test.ParenthesizedExpression s (t ∷ us)) refl e)
as_unary c n (Begins.in_then (Derives.a_word e) (Begins.in_first d)) = in_unary (type_name e d)
as_unary {s = s} c n (Begins.in_then (Derives.a_word {t = t} {ts = us} e) (Begins.in_then d Begins.yet)) =
    in_unary (Begins.in_other (sees_type s t us e (begins_with refl d)) (Begins.in_rule (Begins.in_then (Derives.a_word e) (Begins.in_then d Begins.yet))))
as_unary {s = s} c n (Begins.in_then (Derives.a_word {t = t} {ts = us} e) (Begins.in_then d (Begins.in_first Begins.yet))) =
    in_unary (Begins.in_other (sees_type s t us e (begins_with refl d)) (Begins.in_rule (Begins.in_then (Derives.a_word e) (Begins.in_then d Begins.yet))))
as_unary {s = s} c n (Begins.in_then (Derives.a_word {t = t} {ts = us} e) (Begins.in_then d (Begins.in_first (Begins.in_word w)))) =
    in_unary (Begins.in_other (sees_type s t us e (begins_with refl d)) (Begins.in_rule (Begins.in_then (Derives.a_word e) (Begins.in_then d (Begins.in_first (Begins.in_word w))))))
as_unary {s = s} {ts = ts} c n (Begins.in_then (Derives.a_word {t = t} {ts = us} e) (Begins.in_then d (Begins.in_then (Derives.a_word {ts = vs} w) x))) = elim (entry tables parsed quiet checked x) [
  | inl m ↦ absurd (clash_of (sees_cast s (t ∷ us)) n (by_what_follows s t false c e d w (no_brace _ vs m.begun)))
  | inr h ↦
      subst (λ z. Begins parsed (rule r.Unary) s (t ∷ us) z) (sym h)
      (in_unary (Begins.in_other (sees_type s t us e (begins_with refl d)) (Begins.in_rule (Begins.in_then (Derives.a_word e) (Begins.in_then d (Begins.in_first (Begins.in_word w)))))))
]

-- likewise what a type name in parentheses begins
longer : {s : Scopes} {ts rest : List Terminal} → Begins parsed type_operand s ts rest → Begins parsed cast s ts rest
longer Begins.yet = Begins.yet
longer (Begins.in_first d) = Begins.in_first d
longer (Begins.in_then e Begins.yet) = Begins.in_then e Begins.yet
longer (Begins.in_then e (Begins.in_first d)) = Begins.in_then e (Begins.in_first d)
longer (Begins.in_then e (Begins.in_then d w)) = Begins.in_then e (Begins.in_then d (Begins.in_first w))

not_begun : {f : Form} {s : Scopes} {ts rest : List Terminal} → mem k.OpenParenthesis (first tables f) ≡ false → mem k.Closing (first tables f) ≡ false
    → mem k.Stray (first tables f) ≡ false → sees_cast s ts ≡ true → Begins parsed f s ts rest → Begins parsed type_operand s ts rest
not_begun {f = f} {s = s} {ts = ts} a b c n d = elim (entry tables parsed quiet checked d) [
  | inl m ↦ absurd (clash_of (sees_cast s ts) (elsewhere (first tables f) a b c s ts m.begun) n)
  | inr h ↦ subst (λ z. Begins parsed type_operand s ts z) (sym h) Begins.yet
]

brace_begun : {s : Scopes} {ts rest : List Terminal} → Begins parsed behind_type s ts rest → (sees k.OpenBrace ts ≡ true) ⊎ (rest ≡ ts)
unfolding first
brace_begun Begins.yet = inr refl
brace_begun {s = s} {ts = ts} (Begins.in_chosen b d) = elim (entry tables parsed quiet checked d) [ inl m ↦ inl (brace_seen r.Block block_brace s ts m.begun) | inr h ↦ inr h ]
brace_begun {s = s} {ts = ts} (Begins.in_other b d) = elim (entry tables parsed quiet checked d) [ inl m ↦ inl (brace_seen r.Braces braces_brace s ts m.begun) | inr h ↦ inr h ]

literal_begun : {s : Scopes} {ts rest : List Terminal} → s.brackets ≡ [] → sees_cast s ts ≡ true → Begins parsed (rule r.Literal) s ts rest → Begins parsed type_operand s ts rest
unfolding table
literal_begun c n Begins.yet = Begins.yet
literal_begun c n (Begins.in_rule Begins.yet) = Begins.yet
literal_begun c n (Begins.in_rule (Begins.in_first d)) = Begins.in_first d
literal_begun c n (Begins.in_rule (Begins.in_then e Begins.yet)) = Begins.in_then e Begins.yet
literal_begun c n (Begins.in_rule (Begins.in_then (Derives.a_word e) (Begins.in_first d))) = Begins.in_then (Derives.a_word e) (Begins.in_first d)
literal_begun c n (Begins.in_rule (Begins.in_then (Derives.a_word e) (Begins.in_then d Begins.yet))) = Begins.in_then (Derives.a_word e) (Begins.in_then d Begins.yet)
literal_begun c n (Begins.in_rule (Begins.in_then (Derives.a_word e) (Begins.in_then d (Begins.in_first Begins.yet)))) = Begins.in_then (Derives.a_word e) (Begins.in_then d Begins.yet)
literal_begun c n (Begins.in_rule (Begins.in_then (Derives.a_word e) (Begins.in_then d (Begins.in_first (Begins.in_word w))))) = Begins.in_then (Derives.a_word e) (Begins.in_then d (Begins.in_word w))
literal_begun {s = s} c n (Begins.in_rule (Begins.in_then (Derives.a_word {t = t} {ts = us} e) (Begins.in_then d (Begins.in_then (Derives.a_word {ts = vs} w) x)))) = elim (brace_begun x) [
  | inl h ↦ absurd (clash_of (sees_cast s (t ∷ us)) (by_what_follows s t true c e d w h) n)
  | inr h ↦ subst (λ z. Begins parsed type_operand s (t ∷ us) z) (sym h) (Begins.in_then (Derives.a_word e) (Begins.in_then d (Begins.in_word w)))
]

primary_begun : {s : Scopes} {ts rest : List Terminal} → s.brackets ≡ [] → sees_cast s ts ≡ true → Begins parsed (rule r.Primary) s ts rest → Begins parsed type_operand s ts rest
unfolding table first mem
primary_begun c n Begins.yet = Begins.yet
primary_begun c n (Begins.in_rule Begins.yet) = Begins.yet
primary_begun c n (Begins.in_rule (Begins.in_left d)) = not_begun refl refl refl n d
primary_begun c n (Begins.in_rule (Begins.in_right Begins.yet)) = Begins.yet
primary_begun c n (Begins.in_rule (Begins.in_right (Begins.in_left d))) = not_begun refl refl refl n d
primary_begun c n (Begins.in_rule (Begins.in_right (Begins.in_right Begins.yet))) = Begins.yet
primary_begun c n (Begins.in_rule (Begins.in_right (Begins.in_right (Begins.in_left d)))) = not_begun refl refl refl n d
primary_begun c n (Begins.in_rule (Begins.in_right (Begins.in_right (Begins.in_right Begins.yet)))) = Begins.yet
primary_begun c n (Begins.in_rule (Begins.in_right (Begins.in_right (Begins.in_right (Begins.in_left d))))) = not_begun refl refl refl n d
primary_begun c n (Begins.in_rule (Begins.in_right (Begins.in_right (Begins.in_right (Begins.in_right Begins.yet))))) = Begins.yet
primary_begun {s = s} {ts = ts} c n (Begins.in_rule (Begins.in_right (Begins.in_right (Begins.in_right (Begins.in_right (Begins.in_chosen b d)))))) =
    absurd (clash_of (sees_cast s ts) (no_type s ts b) n)
primary_begun c n (Begins.in_rule (Begins.in_right (Begins.in_right (Begins.in_right (Begins.in_right (Begins.in_other b d)))))) = literal_begun c n d

postfix_begun : {s : Scopes} {ts rest : List Terminal} → s.brackets ≡ [] → sees_cast s ts ≡ true → Begins parsed (rule r.Postfix) s ts rest → Begins parsed type_operand s ts rest
unfolding table
postfix_begun c n Begins.yet = Begins.yet
postfix_begun c n (Begins.in_rule Begins.yet) = Begins.yet
postfix_begun c n (Begins.in_rule (Begins.in_first d)) = primary_begun c n d
postfix_begun {s = s} {ts = ts} c n (Begins.in_rule (Begins.in_then d e)) = absurd (clash_of (sees_cast s ts) (primary_no_cast c d) n)

as_type : {s : Scopes} {ts rest : List Terminal} → s.brackets ≡ [] → sees_cast s ts ≡ true → Begins parsed (rule r.Unary) s ts rest → Begins parsed type_operand s ts rest
unfolding table first nullable hollow firsts mem
as_type c n Begins.yet = Begins.yet
as_type c n (Begins.in_rule Begins.yet) = Begins.yet
as_type c n (Begins.in_rule (Begins.in_left d)) = postfix_begun c n d
as_type c n (Begins.in_rule (Begins.in_right d)) = not_begun {f = prefixes} refl refl refl n d

-- the cast
cast_derived : {s new : Scopes} {ts rest : List Terminal} {xs : List Tree} → s.brackets ≡ [] → Derives parsed (cast or rule r.Unary) s ts xs new rest
    → Derives parsed (when test.CastAhead cast (rule r.Unary)) s ts xs new rest
unfolding hollow
cast_derived {s = s} c (Derives.left (Derives.both (Derives.a_word {t = t} e) (Derives.both d (Derives.both (Derives.a_word {ts = vs} w) x q) p) z)) =
    Derives.chosen (by_what_follows s t false c e d w (no_brace _ vs (begins_with refl x))) (Derives.both (Derives.a_word e) (Derives.both d (Derives.both (Derives.a_word w) x q) p) z)
cast_derived c (Derives.right d) = Derives.other (unary_no_cast c d) d

cast_begun : {s : Scopes} {ts rest : List Terminal} (b : Bool) → sees_cast s ts ≡ b → s.brackets ≡ [] → Begins parsed (cast or rule r.Unary) s ts rest
    → Begins parsed (when test.CastAhead cast (rule r.Unary)) s ts rest
cast_begun b n c Begins.yet = Begins.yet
cast_begun true n c (Begins.in_left d) = Begins.in_chosen n d
cast_begun true n c (Begins.in_right d) = Begins.in_chosen n (longer (as_type c n d))
cast_begun false n c (Begins.in_left d) = Begins.in_other n (as_unary c n d)
cast_begun false n c (Begins.in_right d) = Begins.in_other n d

casts : (s new : Scopes) (ts rest : List Terminal) (xs : List Tree) → s.brackets ≡ [] → Derives parsed (grammar r.Cast) s ts xs new rest → Derives parsed (table r.Cast) s ts xs new rest
unfolding grammar table
casts s new ts rest xs c d = cast_derived c d

cast_fronts : (s : Scopes) (ts rest : List Terminal) → s.brackets ≡ [] → Begins parsed (grammar r.Cast) s ts rest → Begins parsed (table r.Cast) s ts rest
unfolding grammar table
cast_fronts s ts rest c d = cast_begun (sees_cast s ts) refl c d

pub cast_expression : TestsLoseNothing r.Cast
unfolding is_balanced
cast_expression = record { derived = λ s new ts rest xs c d h. record { trees = xs; is = casts s new ts rest xs (c refl) d }; begun = λ s ts rest c d. cast_fronts s ts rest (c refl) d }

-- the operand of `sizeof`
abbrev operand : Form
operand = when test.OperandAhead (rule r.Unary) type_operand

operand_derived : {s new : Scopes} {ts rest : List Terminal} {xs : List Tree} → s.brackets ≡ [] → sees k.OpenBrace rest ≡ false
    → Derives parsed (rule r.Unary or type_operand) s ts xs new rest → Derives parsed operand s ts xs new rest
operand_derived c h (Derives.left d) = Derives.chosen (ap not (unary_no_cast c d)) d
operand_derived {s = s} c h (Derives.right (Derives.both (Derives.a_word {t = t} e) (Derives.both d (Derives.a_word w) p) z)) =
    Derives.other (ap not (by_what_follows s t false c e d w h)) (Derives.both (Derives.a_word e) (Derives.both d (Derives.a_word w) p) z)

operand_begun : {s : Scopes} {ts rest : List Terminal} (b : Bool) → sees_cast s ts ≡ b → s.brackets ≡ [] → Begins parsed (rule r.Unary or type_operand) s ts rest → Begins parsed operand s ts rest
operand_begun b n c Begins.yet = Begins.yet
operand_begun true n c (Begins.in_left d) = Begins.in_other (ap not n) (as_type c n d)
operand_begun true n c (Begins.in_right d) = Begins.in_other (ap not n) d
operand_begun false n c (Begins.in_left d) = Begins.in_chosen (ap not n) d
operand_begun false n c (Begins.in_right d) = Begins.in_chosen (ap not n) (as_unary c n (longer d))

behind_unary : (s : Scopes) (ts : List Terminal) → mem (ahead tables parsed s ts) (follows r.Unary) ≡ true → sees k.OpenBrace ts ≡ false
unfolding follows mem
behind_unary s ts h = missing (follows r.Unary) k.OpenBrace refl refl refl refl s ts h

unaries : (s new : Scopes) (ts rest : List Terminal) (xs : List Tree) → s.brackets ≡ [] → Derives parsed (grammar r.Unary) s ts xs new rest
    → sees k.OpenBrace rest ≡ false → Derives parsed (table r.Unary) s ts xs new rest
unfolding grammar table
unaries s new ts rest xs c (Derives.left d) h = Derives.left d
unaries s new ts rest xs c (Derives.right (Derives.left d)) h = Derives.right (Derives.left d)
unaries s new ts rest xs c (Derives.right (Derives.right (Derives.left d))) h = Derives.right (Derives.right (Derives.left d))
unaries s new ts rest xs c (Derives.right (Derives.right (Derives.right (Derives.left (Derives.both (Derives.a_word e) d p))))) h =
    Derives.right (Derives.right (Derives.right (Derives.left (Derives.both (Derives.a_word e) (operand_derived c h d) p))))
unaries s new ts rest xs c (Derives.right (Derives.right (Derives.right (Derives.right d)))) h = Derives.right (Derives.right (Derives.right (Derives.right d)))

unary_fronts : (s : Scopes) (ts rest : List Terminal) → s.brackets ≡ [] → Begins parsed (grammar r.Unary) s ts rest → Begins parsed (table r.Unary) s ts rest
unfolding grammar table
unary_fronts s ts rest c Begins.yet = Begins.yet
unary_fronts s ts rest c (Begins.in_left d) = Begins.in_left d
unary_fronts s ts rest c (Begins.in_right Begins.yet) = Begins.yet
unary_fronts s ts rest c (Begins.in_right (Begins.in_left d)) = Begins.in_right (Begins.in_left d)
unary_fronts s ts rest c (Begins.in_right (Begins.in_right Begins.yet)) = Begins.yet
unary_fronts s ts rest c (Begins.in_right (Begins.in_right (Begins.in_left d))) = Begins.in_right (Begins.in_right (Begins.in_left d))
unary_fronts s ts rest c (Begins.in_right (Begins.in_right (Begins.in_right Begins.yet))) = Begins.yet
unary_fronts s ts rest c (Begins.in_right (Begins.in_right (Begins.in_right (Begins.in_left Begins.yet)))) = Begins.yet
unary_fronts s ts rest c (Begins.in_right (Begins.in_right (Begins.in_right (Begins.in_left (Begins.in_first d))))) =
    Begins.in_right (Begins.in_right (Begins.in_right (Begins.in_left (Begins.in_first d))))
unary_fronts s ts rest c (Begins.in_right (Begins.in_right (Begins.in_right (Begins.in_left (Begins.in_then (Derives.a_word {t = t} {ts = us} e) d))))) = Begins.in_right (Begins.in_right (Begins.in_right (Begins.in_left (Begins.in_then (Derives.a_word e) (operand_begun (sees_cast (after act.Pass s t) us) refl c d)))))
unary_fronts s ts rest c (Begins.in_right (Begins.in_right (Begins.in_right (Begins.in_right d)))) = Begins.in_right (Begins.in_right (Begins.in_right (Begins.in_right d)))

pub unary_expression : TestsLoseNothing r.Unary
unfolding is_balanced
unary_expression =
    record { derived = λ s new ts rest xs c d h. record { trees = xs; is = unaries s new ts rest xs (c refl) d (behind_unary new rest h) }; begun = λ s ts rest c d. unary_fronts s ts rest (c refl) d }
