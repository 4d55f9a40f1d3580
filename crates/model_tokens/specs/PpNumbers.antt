-- Preprocessing numbers by the grammar (ISO/IEC 9899:2024, 6.4.8).
use Rattle.std.specs.Prelude.{◌≡◌, ℕ, ◌≤◌, Bool, true, ◌||◌, ◌==◌, List, [], ◌∷◌, ◌++◌, take}
use Rattle.model_tokens.specs.declared.steps.LinePart.{LinePart}
use Rattle.model_tokens.specs.declared.steps.Step.TheVariants.{Token}
use Rattle.model_tokens.specs.declared.tokens.PpKind.TheVariants.{Number}
use Rattle.std.specs.Char.{is_ascii_digit, is_ascii_alphanumeric}
use Rattle.model_tokens.specs.PpSteps.{is_word_byte, is_exponent, step_at}

abbrev pub is_sign : ℕ → Bool
is_sign b = b == 43 || b == 45

-- a digit, or a point and a digit; then digits, letters, _ and points, ' with a digit or a letter, the letter of an exponent with a sign
pub data PpNumber : List ℕ → Type 0 where
  digit : (text : List ℕ) (b : ℕ) → text ≡ b ∷ [] → is_ascii_digit b ≡ true → PpNumber text
  point_digit : (text : List ℕ) (b : ℕ) → text ≡ 46 ∷ b ∷ [] → is_ascii_digit b ≡ true → PpNumber text
  word_byte : (text front : List ℕ) (b : ℕ) → PpNumber front → text ≡ front ++ b ∷ [] → is_word_byte b ≡ true → PpNumber text
  point : (text front : List ℕ) → PpNumber front → text ≡ front ++ 46 ∷ [] → PpNumber text
  separator : (text front : List ℕ) (b : ℕ) → PpNumber front → text ≡ front ++ 39 ∷ b ∷ [] → is_ascii_alphanumeric b ≡ true → PpNumber text
  sign : (text front : List ℕ) (e b : ℕ) → PpNumber front → text ≡ front ++ e ∷ b ∷ [] → is_exponent e ≡ true → is_sign b ≡ true → PpNumber text

-- a preprocessing number stands at the front, of at least this many bytes
abbrev pub StandsNumber : LinePart → List ℕ → ℕ → Type 0
StandsNumber line text m = (n : ℕ) × (step_at line text ≡ Token Number n) × (m ≤ n) × PpNumber (take n text)
