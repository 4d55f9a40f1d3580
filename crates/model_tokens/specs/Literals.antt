-- What follows the opening quote of a string literal or a character constant (ISO/IEC 9899:2024, 6.4.4.5, 6.4.5).
use Rattle.std.specs.Prelude.{◌≡◌, ℕ, ◌≤◌, false, ◌==◌, List, [], ◌∷◌, length, take, Some}
use Rattle.model_tokens.specs.PpSteps.{closing}

-- characters other than the quote, a backslash and a line feed, a backslash with any byte but a line feed, and at the end the quote
pub data Ended (quote : ℕ) : List ℕ → Type 0 where
  quote_itself : Ended quote (quote ∷ [])
  character : (b : ℕ) (text : List ℕ) → (b == quote) ≡ false → (b == 92) ≡ false → (b == 10) ≡ false → Ended quote text → Ended quote (b ∷ text)
  escaped : (b : ℕ) (text : List ℕ) → (b == 10) ≡ false → Ended quote text → Ended quote (92 ∷ b ∷ text)

-- a literal ends after this many bytes exactly where that many are characters and the quote that ends them
pub record EndsLiteral (quote : ℕ) (text : List ℕ) (n : ℕ) : Type 0 where
  pub found : closing quote false text ≡ Some n → Ended quote (take n text)
  pub ends : n ≤ length text → Ended quote (take n text) → closing quote false text ≡ Some n
