-- A value that no type holds stays one, however many digits follow.
use Rattle.std.proofs.Common.{◌≡◌, ℕ, zero, suc, ◌+◌, ◌*◌, ◌<◌, ◌≤◌, min, Bool, true, false, ◌==◌, if◌then◌else◌, List, [], ◌∷◌, length, drop, get_or, inl, inr, drop-cons, refl, sym, ap, ◌∙◌, arith}
use Rattle.std.proofs.lemmas.Bool.Decides.{leb_tells}
use native.Mathlib.Numerals.{unary_clauses}
use Rattle.model_tokens.specs.Digits.{value_from, digit_value}
use Rattle.c_tokens.specs.Values.{next_value}

grows : (radix value : ℕ) → 1 ≤ radix → value ≤ value * radix
grows zero value h = absurd (omega arith)
grows (suc r) value h = simp unary_clauses (omega arith)

no_less : (radix value : ℕ) (text : List ℕ) → 1 ≤ radix → value ≤ value_from radix value text
no_less radix value [] h = omega arith
no_less radix value (b ∷ text) h = split (b == 39) (no_less radix value text h) (no_less radix (value * radix + digit_value b) text h) (grows radix value h)
  where
    split : (t : Bool) → value ≤ value_from radix value text → value * radix + digit_value b ≤ value_from radix (value * radix + digit_value b) text → value ≤ value * radix →
        value ≤ (if t then value_from radix value text else value_from radix (value * radix + digit_value b) text)
    split true same more grown = same
    split false same more grown = omega arith

pub capped : (radix value cap : ℕ) (text : List ℕ) → 1 ≤ radix → min (value_from radix (min value cap) text) cap ≡ min (value_from radix value text) cap
capped radix value cap text h = elim (leb_tells value cap) [
  | inl below ↦ let e : min value cap ≡ value = omega (arith, below.1) in rw e refl
  | inr above ↦
      let e : min value cap ≡ cap = omega (arith, above.1) in
      rw e (omega (arith, above.1, no_less radix cap text h, no_less radix value text h))
]

next_is : (radix value b : ℕ) (text : List ℕ) → value_from radix value (b ∷ text) ≡ value_from radix (next_value radix value b) text
next_is radix value b text = split (b == 39)
  where
    split : (t : Bool) → (if t then value_from radix value text else value_from radix (value * radix + digit_value b) text) ≡ value_from radix (if t then value else value * radix + digit_value b) text
    split true = refl
    split false = refl

-- one byte more, with every value kept below the cap
pub value_on : (radix value next cap k : ℕ) (text : List ℕ) (due : ℕ) → 1 ≤ radix → k < length text → next ≡ min (next_value radix value (get_or text k 0)) cap →
    min (value_from radix value (drop k text)) cap ≡ due → min (value_from radix next (drop (k + 1) text)) cap ≡ due
value_on radix value next cap k text due h within is same =
    let e : k + 1 ≡ suc k = omega arith in
    ap (λ v. min (value_from radix v (drop (k + 1) text)) cap) is
    ∙ capped radix (next_value radix value (get_or text k 0)) cap (drop (k + 1) text) h
    ∙ sym (ap (λ z. min (value_from radix value z) cap) (drop-cons text k 0 within) ∙ ap (λ v. min v cap) (next_is radix value (get_or text k 0) (drop (suc k) text)) ∙ ap (λ j. min (value_from radix (next_value radix value (get_or text k 0)) (drop j text)) cap) (sym e))
    ∙ same
