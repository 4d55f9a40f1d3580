use Rattle.std.proofs.Common.{◌≡◌, drop}
use Rattle.model_conditions.specs.ConditionTokens.{condition_tokens}
use Rattle.pp_conditions.specs.Listed.{with_tokens}
use Rattle.pp_conditions.proofs.tokens.condition_tokens.Given as goal

abbrev pub invariant-loop-at : goal.invariant-loop-at
invariant-loop-at l = with_tokens l.tokens (condition_tokens (drop l.at l.line)) ≡ condition_tokens l.line
