-- Quotes that are known not to be ended on their line.
use Rattle.std.specs.Prelude.{◌≡◌, ℕ, suc, ◌<◌, ◌≤◌, false, List, drop, slice_index, None}
use Rattle.model_tokens.specs.PpSteps.{closing}
use Rattle.model_tokens.specs.declared.steps.Step.{Step}
use Rattle.model_tokens.specs.declared.steps.Step.TheVariants.{LineEnd, Blank, Token, OpenComment}
use Rattle.c_tokens.specs.declared.unended.Unended.{Unended}

-- none of the next n bytes is a quote of this kind that is ended on its line
abbrev pub Barren : ℕ → ℕ → List ℕ → Type 0
Barren quote n text = (k : ℕ) → k < n → slice_index text k ≡ quote → closing quote false (drop (suc k) text) ≡ None

-- what is known of the quotes ahead is true
pub record Knows (known : Unended) (text : List ℕ) : Type 0 where
  pub texts : Barren 34 known.texts text
  pub characters : Barren 39 known.characters text

-- a step takes something
abbrev pub Moves : Step → Type 0
Moves (Blank n) = 1 ≤ n
Moves (Token kind n) = 1 ≤ n
Moves LineEnd = Unit {0}
Moves OpenComment = Unit {0}
