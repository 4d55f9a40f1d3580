-- The spellings of floating constants, which the language leaves out (ISO/IEC 9899:2024, 6.4.4.3).
use Rattle.std.specs.Prelude.{ℕ, ◌+◌, Bool, true, false, not, ◌&&◌, ◌||◌, ◌==◌, if◌then◌else◌, List, [], ◌∷◌, take, drop, slice_index, Option, Some, None}
use Rattle.model_tokens.specs.Digits.{are_digits, digit_run}

-- a part of a number that is left out or made of digits
abbrev pub are_digits_or_none : ℕ → List ℕ → Bool
are_digits_or_none radix [] = true
are_digits_or_none radix (b ∷ text) = are_digits radix (b ∷ text)

-- whether the digits at the front have a point among or beside them, and what follows them
abbrev pub significand : ℕ → List ℕ → Option (Bool × List ℕ)
significand radix text =
    let n = digit_run radix text in
    let rest = drop n text in
    if slice_index rest 0 == 46
    then (
    let fraction = drop 1 rest in
    let m = digit_run radix fraction in
    if are_digits_or_none radix (take n text) && (are_digits_or_none radix (take m fraction) && not (n + m == 0)) then Some (true, drop m fraction) else None)
    else (if are_digits radix (take n text) then Some (false, rest) else None)

-- e or p of either case, whose code is `small` or `large`
abbrev pub is_letter : ℕ → ℕ → ℕ → Bool
is_letter small large b = b == small || b == large

abbrev pub is_sign : ℕ → Bool
is_sign b = b == 43 || b == 45

-- what stands behind the letter of an exponent and its sign
abbrev pub behind_sign : List ℕ → List ℕ
behind_sign text = if is_sign (slice_index text 1) then drop 2 text else drop 1 text

-- whether an exponent with one of these letters stands at the front, and what follows it
abbrev pub exponent : ℕ → ℕ → List ℕ → Option (Bool × List ℕ)
exponent small large text =
    if is_letter small large (slice_index text 0)
    then (
    let rest = behind_sign text in
    let n = digit_run 10 rest in
    if are_digits 10 (take n rest) then Some (true, drop n rest) else None)
    else Some (false, text)

-- f, l or one of df, dd and dl, each in capitals too, or nothing
abbrev pub is_floating_suffix : List ℕ → Bool
is_floating_suffix [] = true
is_floating_suffix (a ∷ []) = is_letter 102 70 a || is_letter 108 76 a
is_floating_suffix (a ∷ b ∷ []) = (a == 100 && (b == 102 || (b == 100 || b == 108))) || (a == 68 && (b == 70 || (b == 68 || b == 76)))
is_floating_suffix (a ∷ b ∷ c ∷ text) = false

-- an exponent where it may be, or where it must be, and then a suffix
abbrev pub ends_floating : Bool → Option (Bool × List ℕ) → Bool
ends_floating without None = false
ends_floating without (Some found) = (found.0 || without) && is_floating_suffix found.1

-- the rest of a decimal constant: with a point it may go without an exponent
abbrev pub decimal_rest : Option (Bool × List ℕ) → Bool
decimal_rest None = false
decimal_rest (Some found) = ends_floating found.0 (exponent 101 69 found.1)

-- the rest of a hexadecimal constant, which always has an exponent
abbrev pub hexadecimal_rest : Option (Bool × List ℕ) → Bool
hexadecimal_rest None = false
hexadecimal_rest (Some found) = ends_floating false (exponent 112 80 found.1)

abbrev pub is_floating : List ℕ → Bool
is_floating text =
    if slice_index text 0 == 48 && is_letter 120 88 (slice_index text 1)
    then hexadecimal_rest (significand 16 (drop 2 text))
    else decimal_rest (significand 10 text)
