-- Tokens of a condition that stand in front.
use Rattle.std.specs.Prelude.{◌≡◌, ℕ, List, ◌++◌, ◌+◌, drop, Result, Ok, Err}
use Rattle.model_conditions.specs.declared.conditions.ConditionRule.{ConditionRule}
use Rattle.model_conditions.specs.declared.conditions.ConditionToken.{ConditionToken}
use Rattle.model_tokens.specs.PpTokens.{PpToken}
use Rattle.model_conditions.specs.ConditionTokens.{condition_tokens}

-- tokens before those of the rest
abbrev pub with_tokens : List ConditionToken → Result (List ConditionToken) ConditionRule → Result (List ConditionToken) ConditionRule
with_tokens front (Ok ts) = Ok (front ++ ts)
with_tokens front (Err rule) = Err rule

-- the tokens from the next rank on, behind what stands in front now, are those from this rank on behind what stood there
abbrev pub Grows : List PpToken → ℕ → (old new : List ConditionToken) → Type 0
Grows line at old new = with_tokens new (condition_tokens (drop (at + 1) line)) ≡ with_tokens old (condition_tokens (drop at line))
