-- Macro replacement as a function: each list has one answer.
use Rattle.std.specs.Prelude.{◌≡◌, ℕ}
use Rattle.model_macros.specs.Macros.{Macros}
use Rattle.model_macros.specs.MacroArguments.{Run}
use Rattle.model_macros.specs.Expansion.{Answer, Expands}
use Rattle.model_macros.specs.apparatus.ExpansionSteps.{Expands-unique}
use Rattle.model_macros.specs.apparatus.ExpansionTotal.{Expands-total}

-- what replacement gives for a list, where that many tokens were made before
unfoldable pub expand : Macros → Run → ℕ → Answer
expand table run made = (Expands-total table run made).answer

pub expand-is : (table : Macros) (run : Run) (made : ℕ) → Expands table run made (expand table run made)
unfolding expand
expand-is table run made = (Expands-total table run made).expands

pub expand-only : (table : Macros) (run : Run) (made : ℕ) (a : Answer) → Expands table run made a → a ≡ expand table run made
expand-only table run made a x = Expands-unique table run made a (expand table run made) x (expand-is table run made)
