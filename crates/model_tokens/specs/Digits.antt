-- Digits of numbers, their separators and their values (ISO/IEC 9899:2024, 6.4.4.2).
use Rattle.std.specs.Prelude.{ℕ, ◌+◌, ◌-◌, ◌*◌, Bool, true, false, ◌&&◌, ◌||◌, ◌==◌, nat_le, nat_lt, if◌then◌else◌, List, [], ◌∷◌}
use Rattle.std.specs.Char.{is_ascii_digit}
use Rattle.std.specs.List.{prefix_len}

-- the value of a digit, or 16 where the byte is none
abbrev pub digit_value : ℕ → ℕ
digit_value b =
    if is_ascii_digit b then b - 48
    else (if nat_le 97 b && nat_le b 102 then b - 87 else (if nat_le 65 b && nat_le b 70 then b - 55 else 16))

abbrev pub is_digit_of : ℕ → ℕ → Bool
is_digit_of radix b = nat_lt (digit_value b) radix

-- digits to the end, with single ' between them; the flag says that a digit stands directly before
abbrev pub digits_from : ℕ → Bool → List ℕ → Bool
digits_from radix before [] = before
digits_from radix before (b ∷ text) =
    if is_digit_of radix b then digits_from radix true text else (b == 39 && (before && digits_from radix false text))

-- one digit or more, with single ' between them
abbrev pub are_digits : ℕ → List ℕ → Bool
are_digits radix text = digits_from radix false text

-- the number of digits and ' in front
abbrev pub digit_run : ℕ → List ℕ → ℕ
digit_run radix text = prefix_len (λ b. is_digit_of radix b || b == 39) text

-- the value of digits behind those of a value, each ' left out
abbrev pub value_from : ℕ → ℕ → List ℕ → ℕ
value_from radix value [] = value
value_from radix value (b ∷ text) = if b == 39 then value_from radix value text else value_from radix (value * radix + digit_value b) text
