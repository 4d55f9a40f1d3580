-- Classes of bytes (ISO/IEC 9899:2024, 5.2.1 and 6.4.3.1), and lists of bytes of one class.
use Rattle.std.specs.Prelude.{◌≡◌, ℕ, Bool, true, false, ◌&&◌, ◌||◌, ◌==◌, nat_le, List, [], ◌∷◌}

abbrev pub is_digit : ℕ → Bool
is_digit byte = nat_le 48 byte && nat_le byte 57

abbrev pub is_letter : ℕ → Bool
is_letter byte = (nat_le 97 byte && nat_le byte 122) || (nat_le 65 byte && nat_le byte 90)

-- a byte that begins a name
abbrev pub is_nondigit : ℕ → Bool
is_nondigit byte = is_letter byte || (byte == 95)

-- a byte that goes on with a name
abbrev pub is_word_byte : ℕ → Bool
is_word_byte byte = is_nondigit byte || is_digit byte

abbrev pub begins_with : (ℕ → Bool) → List ℕ → Bool
begins_with test [] = false
begins_with test (byte ∷ bytes) = test byte

-- all bytes pass the test
abbrev pub AllBytes : (ℕ → Bool) → List ℕ → Type 0
AllBytes test [] = Unit {0}
AllBytes test (byte ∷ bytes) = (test byte ≡ true) × AllBytes test bytes
