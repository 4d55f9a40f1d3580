-- The characters of strings and character constants (ISO/IEC 9899:2024, 6.4.4.5, 6.4.5).
use Rattle.std.specs.Prelude.{ℕ, zero, suc, ◌-◌, false, ◌||◌, ◌==◌, nat_le, min, if◌then◌else◌, List, [], ◌∷◌, take, length, Option, Some, None}
use Rattle.std.specs.List.{prefix_len}
use Rattle.model_tokens.specs.Digits.{is_digit_of, value_from}
use Rattle.model_tokens.specs.PpSteps.{closing}

-- a value that is a byte
abbrev pub as_byte : ℕ → Option ℕ
as_byte value = if nat_le value 255 then Some value else None

-- the value of an escape sequence of one letter
abbrev pub simple_escape : ℕ → Option ℕ
simple_escape b =
    if b == 39 || (b == 34 || (b == 63 || b == 92)) then Some b
    else (if b == 97 then Some 7
    else (if b == 98 then Some 8
    else (if b == 102 then Some 12
    else (if b == 110 then Some 10
    else (if b == 114 then Some 13
    else (if b == 116 then Some 9
    else (if b == 118 then Some 11 else None)))))))

-- the number of hexadecimal digits in front
abbrev pub hexadecimal_run : List ℕ → ℕ
hexadecimal_run text = prefix_len (is_digit_of 16) text

-- the number of octal digits of an escape sequence, at most three
abbrev pub octal_run : List ℕ → ℕ
octal_run text = min (prefix_len (is_digit_of 8) text) 3

-- the length of an escape sequence behind its backslash; a universal character name is one, though it has no value here
abbrev pub escape_length : List ℕ → ℕ
escape_length [] = 0
escape_length (b ∷ text) =
    if is_digit_of 8 b then octal_run (b ∷ text)
    else (if b == 120 then suc (hexadecimal_run text)
    else (if b == 117 then suc (min (hexadecimal_run text) 4)
    else (if b == 85 then suc (min (hexadecimal_run text) 8) else 1)))

-- the value of \x with this many digits
abbrev pub hexadecimal_escape : ℕ → List ℕ → Option ℕ
hexadecimal_escape n text = if n == 0 then None else as_byte (value_from 16 0 (take n text))

-- the value of an escape sequence of octal digits
abbrev pub octal_value : List ℕ → ℕ
octal_value text = value_from 8 0 (take (octal_run text) text)

-- the value of an escape sequence behind its backslash, where it is one of C and a byte
abbrev pub escape_value : List ℕ → Option ℕ
escape_value [] = None
escape_value (b ∷ text) =
    if is_digit_of 8 b then as_byte (octal_value (b ∷ text))
    else (if b == 120 then hexadecimal_escape (hexadecimal_run text) text else simple_escape b)

-- the length of the first character
abbrev pub character_length : List ℕ → ℕ
character_length [] = 0
character_length (b ∷ text) = if b == 92 then suc (escape_length text) else 1

-- its value
abbrev pub character_value : List ℕ → Option ℕ
character_value [] = None
character_value (b ∷ text) = if b == 92 then escape_value text else Some b

-- the values of the characters, none for a bad escape; the number counts the bytes that are left of the character before
abbrev pub characters_from : ℕ → List ℕ → List (Option ℕ)
characters_from skip [] = []
characters_from (suc skip) (b ∷ text) = characters_from skip text
characters_from zero (b ∷ text) = character_value (b ∷ text) ∷ characters_from (character_length (b ∷ text) - 1) text

abbrev pub characters : List ℕ → List (Option ℕ)
characters text = characters_from 0 text

-- the bytes between the quotes, where the quote that ends them is the last byte
abbrev pub inside : Option ℕ → List ℕ → Option (List ℕ)
inside None text = None
inside (Some n) text = if n == length text then Some (take (n - 1) text) else None

-- the bytes between the quotes of a literal that has no prefix
abbrev pub content : ℕ → List ℕ → Option (List ℕ)
content quote [] = None
content quote (b ∷ text) = if b == quote then inside (closing quote false text) text else None
