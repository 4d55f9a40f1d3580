-- No type holds a value past 64 bits.
use Rattle.std.proofs.Common.{◌≡◌, ℕ, ◌^◌, ◌<◌, ◌≤◌, min, Bool, true, false, ◌&&◌, inl, inr, if◌then◌else◌, List, [], ◌∷◌, length, drop, get_or, suc, drop-cons, Err, Option, Some, None, ℤ, pos, refl, sym, ap, ◌∙◌, arith, int_le}
use Rattle.model_types.specs.declared.numbers.Basic.{Basic}
use Rattle.model_types.specs.declared.numbers.Basic.TheVariants.{Bool as bool, Char, SignedChar, UnsignedChar, Short, UnsignedShort, Int, Unsigned, Long, UnsignedLong, LongLong, UnsignedLongLong}
use Rattle.model_types.specs.declared.numbers.Const.{Const}
use Rattle.model_tokens.specs.declared.constants.Base.{Base}
use Rattle.model_tokens.specs.declared.constants.Suffix.{Suffix}
use Rattle.model_tokens.specs.declared.tokens.TokenRule.TheVariants.{MalformedNumber}
use Rattle.std.proofs.Math.Bool.{Bool-set}
use Rattle.std.proofs.lemmas.Bool.Decides.{leb_tells}
use Rattle.model_tokens.specs.Digits.{are_digits, value_from}
use Rattle.model_tokens.specs.IntegerConstants.{constant_in, constant_if, first_fitting, or_else, fitting, constant_of, radix, types_of}
use Rattle.model_types.specs.Operations.{fits, lowest}

and_false : (p q : Bool) → q ≡ false → (p && q) ≡ false
and_false true q e = e
and_false false q e = refl

above : (low : ℤ) (value high : ℕ) → high < value → (int_le low (pos value) && int_le (pos value) (pos high)) ≡ false
above low value high h = and_false (int_le low (pos value)) (int_le (pos value) (pos high)) (grind arith)

never : (t : Basic) (value : ℕ) → 2 ^ 64 ≤ value → fits t (pos value) ≡ false
never bool value h = above (lowest bool) value 1 (omega arith)
never Char value h = above (lowest Char) value 127 (omega arith)
never SignedChar value h = above (lowest SignedChar) value 127 (omega arith)
never UnsignedChar value h = above (lowest UnsignedChar) value 255 (omega arith)
never Short value h = above (lowest Short) value 32767 (omega arith)
never UnsignedShort value h = above (lowest UnsignedShort) value 65535 (omega arith)
never Int value h = above (lowest Int) value 2147483647 (omega arith)
never Unsigned value h = above (lowest Unsigned) value 4294967295 (omega arith)
never Long value h = above (lowest Long) value 9223372036854775807 (omega arith)
never UnsignedLong value h = above (lowest UnsignedLong) value 18446744073709551615 (omega arith)
never LongLong value h = above (lowest LongLong) value 9223372036854775807 (omega arith)
never UnsignedLongLong value h = above (lowest UnsignedLongLong) value 18446744073709551615 (omega arith)

no_constant : (t : Basic) (value : ℤ) (b : Bool) (e : fits t value ≡ b) → b ≡ false → constant_if t value b e ≡ None
no_constant t value false e h = refl
no_constant t value true e h = absurd (let g : true ≡ false = h in cc)

none_fits : (types : List Basic) (value : ℕ) → 2 ^ 64 ≤ value → first_fitting types (pos value) ≡ None
none_fits [] value h = refl
none_fits (t ∷ types) value h =
    ap (λ first. or_else first (first_fitting types (pos value))) (no_constant t (pos value) (fits t (pos value)) refl (never t value h)) ∙ none_fits types value h

pub capped_fitting : (types : List Basic) (value : ℕ) → first_fitting types (pos (min value (2 ^ 64))) ≡ first_fitting types (pos value)
capped_fitting types value = elim (leb_tells value (2 ^ 64)) [
  | inl below ↦ let e : min value (2 ^ 64) ≡ value = omega (arith, below.1) in rw e refl
  | inr beyond ↦
      let e : min value (2 ^ 64) ≡ 2 ^ 64 = omega (arith, beyond.1) in
      rw e (none_fits types (2 ^ 64) (omega arith) ∙ sym (none_fits types value (omega (arith, beyond.1))))
]

is_constant : (t : Basic) (value : ℤ) (b : Bool) (e : fits t value ≡ b) (p : fits t value ≡ true) → constant_if t value b e ≡ Some (record { value = value; basic = t; in_range = p })
is_constant t value false e p = absurd (let g : false ≡ true = sym e ∙ p in cc)
is_constant t value true e p = ap (λ r. Some (record { value = value; basic = t; in_range = r })) (Bool-set (fits t value) true e p)

-- a value that fits is the constant
pub constant_is : (t : Basic) (value : ℤ) (p : fits t value ≡ true) → Some (record { value = value; basic = t; in_range = p }) ≡ constant_in t value
constant_is t value p = sym (is_constant t value (fits t value) refl p)

pub constant_field : (t : Basic) (value read : ℤ) → read ≡ value → (p : fits t read ≡ true) → Some (record { value = read; basic = t; in_range = p }) ≡ constant_in t value
constant_field t value read is p = constant_is t read p ∙ ap (constant_in t) is

pub fits_here : (types : List Basic) (k : ℕ) (d : Basic) (value read : ℤ) (found : Option Const) (constant : Const) → k < length types → read ≡ value →
    found ≡ constant_in (get_or types k d) read → found ≡ Some constant → first_fitting (drop k types) read ≡ first_fitting types read → Some constant ≡ first_fitting types value
fits_here types k d value read found constant within is_value is is_some same =
    sym (ap (λ z. first_fitting z read) (drop-cons types k d within) ∙ ap (λ first. or_else first (first_fitting (drop (suc k) types) read)) (sym is ∙ is_some)) ∙ same ∙ ap (first_fitting types) is_value

pub constant_made : (base : Base) (digits : List ℕ) (suffix : Suffix) (value : ℕ) (read : ℤ) (types : List Basic) (found : Option Const) → true ≡ are_digits (radix base) digits → types ≡ types_of base suffix →
    value ≡ min (value_from (radix base) 0 digits) (2 ^ 64) → read ≡ pos value → found ≡ first_fitting types read → fitting found ≡ constant_of base digits (Some suffix)
constant_made base digits suffix value read types found are is_types is_value is_read is_found =
    ap fitting (is_found ∙ ap (first_fitting types) (is_read ∙ ap pos is_value) ∙ ap (λ z. first_fitting z (pos (min (value_from (radix base) 0 digits) (2 ^ 64)))) is_types ∙ capped_fitting (types_of base suffix) (value_from (radix base) 0 digits))
    ∙ ap (λ b. if b then fitting (first_fitting (types_of base suffix) (pos (value_from (radix base) 0 digits))) else Err MalformedNumber) are
