-- Which tokens open and close brackets, told by their kinds in the scopes.
use Rattle.std.proofs.Common.{◌≡◌, ℕ, Bool, true, false, ◌||◌, List, [], ◌∷◌, refl, sym, subst}
use Rattle.std.proofs.lemmas.Bool.{eqb-true}
use Rattle.std.specs.Prelude.{◌==◌, if◌then◌else◌}
use mathlib.Core.Logic.{inl, inr}
use Rattle.model_grammar.specs.declared.grammar.Terminal.{Terminal}
use Rattle.model_grammar.specs.GrammarForm.{mem}
use Rattle.grammar_laws.specs.apparatus.DecidedTable.{apart}
use Rattle.model_grammar.specs.NameScopes.{Scopes, kind, bracket_kind, is_closing, is_opening, is_given, own_kind, closes, is_type}
use Rattle.model_grammar.specs.Terminals as k
use Rattle.grammar_laws.specs.ParserSets.{tables}
use Rattle.grammar_laws.proofs.kinds.KindSets.{clash, or_cases, apart_mem, one_mem}
use Rattle.grammar_laws.proofs.kinds.TokenKinds.{raw, decide, own}
use Rattle.grammar_laws.proofs.derivations.ClearBrackets.{closing}

abbrev pub opening : List ℕ
opening = k.OpenParenthesis ∷ k.OpenBracket ∷ k.OpenBrace ∷ []

-- every kind that a bracket may be of
abbrev pub brackets : List ℕ
brackets = k.OpenParenthesis ∷ k.CloseParenthesis ∷ k.OpenBracket ∷ k.CloseBracket ∷ k.OpenBrace ∷ k.CloseBrace ∷ k.Closing ∷ k.Stray ∷ []

three : (x y z : Bool) → (x || (y || (z || false))) ≡ true → ((x || y) || z) ≡ true
three true y z h = refl
three false true z h = refl
three false false true h = refl
three false false false h = h

back : (x y z : Bool) → ((x || y) || z) ≡ true → (x || (y || (z || false))) ≡ true
back true y z h = refl
back false true z h = refl
back false false true h = refl
back false false false h = h

opens : (j : ℕ) → mem j opening ≡ true → is_opening j ≡ true
unfolding mem
opens j h = three (j == k.OpenParenthesis) (j == k.OpenBracket) (j == k.OpenBrace) h

opens_back : (j : ℕ) → is_opening j ≡ true → mem j opening ≡ true
unfolding mem
opens_back j h = back (j == k.OpenParenthesis) (j == k.OpenBracket) (j == k.OpenBrace) h

closes_it : (j : ℕ) → mem j closing ≡ true → is_closing j ≡ true
unfolding mem
closes_it j h = three (j == k.CloseParenthesis) (j == k.CloseBracket) (j == k.CloseBrace) h

closes_back : (j : ℕ) → is_closing j ≡ true → mem j closing ≡ true
unfolding mem
closes_back j h = back (j == k.CloseParenthesis) (j == k.CloseBracket) (j == k.CloseBrace) h

apart_kinds : apart tables closing opening ≡ true
unfolding apart mem
apart_kinds = refl

-- a closing bracket opens none
pub not_both : (k : ℕ) → is_closing k ≡ true → is_opening k ≡ false
not_both k h = decide (is_opening k) (λ e. apart_mem tables k closing opening apart_kinds (closes_back k h) (opens_back k e))

pub opening_kind : (s : Scopes) (t : Terminal) → mem (kind s t) opening ≡ true → is_opening t.kind ≡ true
unfolding mem
opening_kind s t h = opens t.kind (raw opening (refl, refl, refl, refl, refl) s t h)

pub closing_kind : (s : Scopes) (t : Terminal) → mem (kind s t) closing ≡ true → is_closing t.kind ≡ true
unfolding mem
closing_kind s t h = closes_it t.kind (raw closing (refl, refl, refl, refl, refl) s t h)

-- one that matches a bracket that is held open
pub record IsHeld (s : Scopes) (t : Terminal) : Type 0 where
  pub last : ℕ
  pub others : List ℕ
  pub held : s.brackets ≡ last ∷ others
  pub closes : is_closing t.kind ≡ true

no_name : (b x y : Bool) (j : ℕ) → mem (if b then (if x then (if y then k.DeclaredName else k.TypedefName) else k.Name) else j) (k.Closing ∷ []) ≡ true → mem j (k.Closing ∷ []) ≡ true
unfolding mem
no_name true true true j h = absurd (cc)
no_name true true false j h = absurd (cc)
no_name true false y j h = absurd (cc)
no_name false x y j h = h

-- no kind of its own is that of a bracket inside attributes
never_own : (c : Bool) (j : ℕ) → (mem j (k.Closing ∷ []) ≡ true → c ≡ true) → mem (if c then k.Stray else j) (k.Closing ∷ []) ≡ true → ⊥
unfolding mem
never_own true j f h = cc
never_own false j f h = clash false (f h) refl

is_given_there : (j : ℕ) → mem j (k.Closing ∷ []) ≡ true → is_given j ≡ true
is_given_there j e = let q : j ≡ k.Closing = one_mem j k.Closing e in rw q refl

own_no : (j : ℕ) → mem (own_kind j) (k.Closing ∷ []) ≡ true → ⊥
own_no j h = never_own (is_given j) j (is_given_there j) h

closed_one : (c d : Bool) (j : ℕ) → (mem j (k.Closing ∷ []) ≡ true → ⊥) → mem (if c then (if d then k.Closing else k.Stray) else j) (k.Closing ∷ []) ≡ true → c ≡ true
closed_one true d j n h = refl
closed_one false d j n h = absurd (n h)

held_by : (s : Scopes) (t : Terminal) (bs : List ℕ) → s.brackets ≡ bs → mem (bracket_kind bs t.kind) (k.Closing ∷ []) ≡ true → IsHeld s t
held_by s t [] e h = absurd (own_no t.kind h)
held_by s t (last ∷ others) e h = record { last = last; others = others; held = e; closes = closed_one (is_closing t.kind) (closes last t.kind) (own_kind t.kind) (own_no t.kind) h }

pub held_kind : (s : Scopes) (t : Terminal) → mem (kind s t) (k.Closing ∷ []) ≡ true → IsHeld s t
held_kind s t h = held_by s t s.brackets refl (no_name (t.kind == k.Name) (is_type s.entries t.name) s.reading.typed (bracket_kind s.brackets t.kind) h)

-- a bracket is of one of these kinds
either_kind : (b : Bool) → mem (if b then k.Closing else k.Stray) brackets ≡ true
unfolding mem
either_kind true = refl
either_kind false = refl

is_in : (s : Scopes) (t : Terminal) (j : ℕ) → t.kind ≡ j → (j == k.Name) ≡ false → ((bs : List ℕ) → mem (bracket_kind bs j) brackets ≡ true) → mem (kind s t) brackets ≡ true
is_in s t j e n f =
    let p : kind s t ≡ bracket_kind s.brackets t.kind = own (t.kind == k.Name) (is_type s.entries t.name) s.reading.typed (bracket_kind s.brackets t.kind) (rw e n) in
    subst (λ z. mem z brackets ≡ true) (sym p) (subst (λ z. mem (bracket_kind s.brackets z) brackets ≡ true) (sym e) (f s.brackets))

at_open_parenthesis : (bs : List ℕ) → mem (bracket_kind bs k.OpenParenthesis) brackets ≡ true
unfolding mem
at_open_parenthesis [] = refl
at_open_parenthesis (last ∷ bs) = refl

at_open_bracket : (bs : List ℕ) → mem (bracket_kind bs k.OpenBracket) brackets ≡ true
unfolding mem
at_open_bracket [] = refl
at_open_bracket (last ∷ bs) = refl

at_open_brace : (bs : List ℕ) → mem (bracket_kind bs k.OpenBrace) brackets ≡ true
unfolding mem
at_open_brace [] = refl
at_open_brace (last ∷ bs) = refl

at_close_parenthesis : (bs : List ℕ) → mem (bracket_kind bs k.CloseParenthesis) brackets ≡ true
unfolding mem
at_close_parenthesis [] = refl
at_close_parenthesis (last ∷ bs) = either_kind (closes last k.CloseParenthesis)

at_close_bracket : (bs : List ℕ) → mem (bracket_kind bs k.CloseBracket) brackets ≡ true
unfolding mem
at_close_bracket [] = refl
at_close_bracket (last ∷ bs) = either_kind (closes last k.CloseBracket)

at_close_brace : (bs : List ℕ) → mem (bracket_kind bs k.CloseBrace) brackets ≡ true
unfolding mem
at_close_brace [] = refl
at_close_brace (last ∷ bs) = either_kind (closes last k.CloseBrace)

closing_in : (s : Scopes) (t : Terminal) → is_closing t.kind ≡ true → mem (kind s t) brackets ≡ true
closing_in s t h = elim (or_cases (t.kind == k.CloseParenthesis || t.kind == k.CloseBracket) (t.kind == k.CloseBrace) h) [
  | inl e ↦ elim (or_cases (t.kind == k.CloseParenthesis) (t.kind == k.CloseBracket) e) [
    | inl q ↦ is_in s t k.CloseParenthesis (eqb-true t.kind k.CloseParenthesis q) refl at_close_parenthesis
    | inr q ↦ is_in s t k.CloseBracket (eqb-true t.kind k.CloseBracket q) refl at_close_bracket
  ]
  | inr q ↦ is_in s t k.CloseBrace (eqb-true t.kind k.CloseBrace q) refl at_close_brace
]

opening_in : (s : Scopes) (t : Terminal) → is_opening t.kind ≡ true → mem (kind s t) brackets ≡ true
opening_in s t h = elim (or_cases (t.kind == k.OpenParenthesis || t.kind == k.OpenBracket) (t.kind == k.OpenBrace) h) [
  | inl e ↦ elim (or_cases (t.kind == k.OpenParenthesis) (t.kind == k.OpenBracket) e) [
    | inl q ↦ is_in s t k.OpenParenthesis (eqb-true t.kind k.OpenParenthesis q) refl at_open_parenthesis
    | inr q ↦ is_in s t k.OpenBracket (eqb-true t.kind k.OpenBracket q) refl at_open_bracket
  ]
  | inr q ↦ is_in s t k.OpenBrace (eqb-true t.kind k.OpenBrace q) refl at_open_brace
]

-- a token of another kind is no bracket
pub no_opening : (ks : List ℕ) → apart tables ks brackets ≡ true → (s : Scopes) (t : Terminal) → mem (kind s t) ks ≡ true → is_opening t.kind ≡ false
no_opening ks a s t h = decide (is_opening t.kind) (λ e. apart_mem tables (kind s t) ks brackets a h (opening_in s t e))

pub no_closing : (ks : List ℕ) → apart tables ks brackets ≡ true → (s : Scopes) (t : Terminal) → mem (kind s t) ks ≡ true → is_closing t.kind ≡ false
no_closing ks a s t h = decide (is_closing t.kind) (λ e. apart_mem tables (kind s t) ks brackets a h (closing_in s t e))
