-- How far a line is read, and what stands in front.
use Rattle.std.specs.Prelude.{◌≡◌, ℕ, List, ◌++◌, drop, Result, Ok, Err}
use Rattle.model_conditions.specs.declared.conditions.ConditionRule.{ConditionRule}
use Rattle.model_tokens.specs.PpTokens.{PpToken}
use Rattle.model_macros.specs.Macros.{Macro}
use Rattle.model_conditions.specs.Defined.{answered_from}

-- what the line gives from a rank on
abbrev pub answered_at : List (List ℕ × Macro) → List PpToken → ℕ → Result (List PpToken) ConditionRule
answered_at macros line at = answered_from macros 0 (drop at line)

abbrev pub with_front : List PpToken → Result (List PpToken) ConditionRule → Result (List PpToken) ConditionRule
with_front front (Ok ts) = Ok (front ++ ts)
with_front front (Err rule) = Err rule

-- the line from one rank on, behind what stood in front, is the line from the next one on, behind what stands there now
abbrev pub Follows : List (List ℕ × Macro) → List PpToken → (at next : ℕ) → (old new : List PpToken) → Type 0
Follows macros line at next old new = with_front new (answered_at macros line next) ≡ with_front old (answered_at macros line at)
