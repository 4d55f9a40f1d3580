-- The search for a number whose name isn't external ends: there are no more external names than it tries.
use Rattle.std.proofs.Common.{◌≡◌, ◌∙◌, ap, refl, sym, subst, arith, ℕ, zero, suc, ◌+◌, ◌^◌, ◌<◌, ◌≤◌, Bool, true, false, ◌||◌, List, [], ◌∷◌, ◌++◌, length, true≢false, if◌then◌else◌}
use Rattle.std.specs.Str.{bytes_eq}
use Rattle.std.proofs.lemmas.Slice.Eq.{bytes_eq-Decides}
use Rattle.model_c89.specs.Names89.{is_among}
use Rattle.std.specs.Prelude.{codes}
use Rattle.std.specs.Fmt.{decimal}
use Rattle.std.proofs.lemmas.Fmt.{decimal_injective}
use Rattle.std.proofs.lemmas.List.{append_assoc, append_cancel_left}
use Rattle.model_lowering.specs.TextNames.{made, numbered, free_number, free_from}

-- names without the first that is this one
abbrev without : List (List ℕ) → List ℕ → List (List ℕ)
without [] name = []
without (other ∷ names) name = if bytes_eq other name then names else other ∷ without names name

shorter_by : (b : Bool) (other : List ℕ) (names rest : List (List ℕ)) (among : Bool) → b || among ≡ true → (among ≡ true → suc (length rest) ≡ length names) →
    suc (length (if b then names else other ∷ rest)) ≡ suc (length names)
shorter_by true other names rest among e h = refl
shorter_by false other names rest among e h = ap suc (h e)

shorter : (names : List (List ℕ)) (name : List ℕ) → is_among names name ≡ true → suc (length (without names name)) ≡ length names
shorter [] name e = absurd (true≢false (sym e))
shorter (other ∷ names) name e =
    shorter_by (bytes_eq other name) other names (without names name) (is_among names name) e (λ k. shorter names name k)

keeps_by : (b c : Bool) (other x y : List ℕ) (names rest : List (List ℕ)) → (b ≡ true → other ≡ x) → (c ≡ true → other ≡ y) → (x ≡ y → ⊥) → c ≡ bytes_eq other y →
    c || is_among names y ≡ true → (is_among names y ≡ true → is_among rest y ≡ true) → is_among (if b then names else other ∷ rest) y ≡ true
keeps_by true true other x y names rest hb hc apart same e h = absurd (apart (sym (hb refl) ∙ hc refl))
keeps_by true false other x y names rest hb hc apart same e h = e
keeps_by false true other x y names rest hb hc apart same e h = ap (λ z. z || is_among rest y) (sym same)
keeps_by false false other x y names rest hb hc apart same e h = ap (λ z. z || is_among rest y) (sym same) ∙ h e

keeps : (names : List (List ℕ)) (x y : List ℕ) → (x ≡ y → ⊥) → is_among names y ≡ true → is_among (without names x) y ≡ true
keeps [] x y apart e = absurd (true≢false (sym e))
keeps (other ∷ names) x y apart e =
    keeps_by (bytes_eq other x) (bytes_eq other y) other x y names (without names x) (bytes_eq-Decides other x).0 (bytes_eq-Decides other y).0 apart refl e
    (λ k. keeps names x y apart k)

-- ---- the search

false_is : (a : Bool) → (a ≡ true → ⊥) → a ≡ false
false_is true h = absurd (h refl)
false_is false h = refl

none_among : (rest : List (List ℕ)) (name : List ℕ) → length rest ≤ 0 → is_among rest name ≡ true → ⊥
none_among [] name few e = true≢false (sym e)
none_among (first ∷ others) name few e = absurd (omega (arith, few))

-- no two names of numbers in a range are the same
abbrev pub AreApart : (name_of : ℕ → List ℕ) → (first last : ℕ) → Type 0
AreApart name_of first last = (i j : ℕ) → first ≤ i → i < j → j ≤ last → name_of i ≡ name_of j → ⊥

abbrev Covers : (externals rest : List (List ℕ)) → (name_of : ℕ → List ℕ) → (first last : ℕ) → Type 0
Covers externals rest name_of first last =
    (j : ℕ) → first ≤ j → j ≤ last → is_among externals (name_of j) ≡ true → is_among rest (name_of j) ≡ true

less_by_one : (n m tries : ℕ) → suc n ≡ m → m ≤ suc tries → n ≤ tries
less_by_one n m tries e h = omega (arith, e, h)

past_first : (number i : ℕ) → suc number ≤ i → number ≤ i
past_first number i h = omega (arith, h)

up_to_last : (number tries j : ℕ) → j ≤ suc number + tries → j ≤ number + suc tries
up_to_last number tries j h = omega (arith, h)

itself : (number : ℕ) → number ≤ number
itself number = omega arith

within : (number tries : ℕ) → number ≤ number + tries
within number tries = omega arith

chosen : (b : Bool) (externals : List (List ℕ)) (name_of : ℕ → List ℕ) (number further : ℕ) → is_among externals (name_of number) ≡ b →
    (b ≡ true → is_among externals (name_of further) ≡ false) → is_among externals (name_of (if b then further else number)) ≡ false
chosen true externals name_of number further e again = again refl
chosen false externals name_of number further e again = e

free_ok : (tries : ℕ) (externals rest : List (List ℕ)) (name_of : ℕ → List ℕ) (number : ℕ) → length rest ≤ tries → AreApart name_of number (number + tries) →
    Covers externals rest name_of number (number + tries) → is_among externals (name_of (free_number tries externals name_of number)) ≡ false
free_ok zero externals rest name_of number few apart covers =
    false_is (is_among externals (name_of number)) (λ e. none_among rest (name_of number) few (covers number (itself number) (within number 0) e))
free_ok (suc tries) externals rest name_of number few apart covers =
    chosen (is_among externals (name_of number)) externals name_of number (free_number tries externals name_of (suc number)) refl (λ e.
    free_ok tries externals (without rest (name_of number)) name_of (suc number)
    (less_by_one (length (without rest (name_of number))) (length rest) tries
    (shorter rest (name_of number) (covers number (itself number) (within number (suc tries)) e)) few)
    (λ i j h k m. apart i j (past_first number i h) k (up_to_last number tries j m))
    (λ j h m k. keeps rest (name_of number) (name_of j) (apart number j (itself number) h (up_to_last number tries j m))
    (covers j (past_first number j h) (up_to_last number tries j m) k)))

-- the name of the number that is found isn't external
pub found_is_free : (externals : List (List ℕ)) (name_of : ℕ → List ℕ) (number : ℕ) → AreApart name_of number (number + length externals) →
    is_among externals (name_of (free_from externals name_of number)) ≡ false
found_is_free externals name_of number apart =
    free_ok (length externals) externals externals name_of number (itself (length externals)) apart (λ j h k e. e)

-- ---- names with numbers

numbered_apart_by : (front : List ℕ) (i j : ℕ) → i < j → j < 2 ^ 64 → front ++ decimal i ≡ front ++ decimal j → ⊥
numbered_apart_by front i j less small e =
    let same : i ≡ j = decimal_injective i j (omega (arith, less, small)) small (append_cancel_left front (decimal i) (decimal j) e) in
    absurd (omega (arith, less, same))

made_apart : (front : List ℕ) (first last : ℕ) → last < 2 ^ 64 → AreApart (made front) first last
made_apart front first last small i j h less m e = numbered_apart_by front i j less (omega (arith, m, small)) e

regrouped : (front : List ℕ) (n : ℕ) → numbered front n ≡ (front ++ codes "_") ++ decimal n
regrouped front n = sym (append_assoc front (codes "_") (decimal n))

numbered_apart : (front : List ℕ) (first last : ℕ) → last < 2 ^ 64 → AreApart (numbered front) first last
numbered_apart front first last small i j h less m e =
    numbered_apart_by (front ++ codes "_") i j less (omega (arith, m, small)) (sym (regrouped front i) ∙ e ∙ regrouped front j)

-- no name that is made or numbered is that of an external
pub made_is_free : (externals : List (List ℕ)) (front : List ℕ) (number : ℕ) → number + length externals < 2 ^ 64 →
    is_among externals (made front (free_from externals (made front) number)) ≡ false
made_is_free externals front number small = found_is_free externals (made front) number (made_apart front number (number + length externals) small)

pub numbered_is_free : (externals : List (List ℕ)) (front : List ℕ) (number : ℕ) → number + length externals < 2 ^ 64 →
    is_among externals (numbered front (free_from externals (numbered front) number)) ≡ false
numbered_is_free externals front number small = found_is_free externals (numbered front) number (numbered_apart front number (number + length externals) small)
