use Rattle.std.proofs.Common.{◌≡◌, drop}
use Rattle.model_conditions.specs.ConditionTokens.{has_u}
use Rattle.pp_conditions.proofs.tokens.has_u.Given as goal

abbrev pub invariant-loop-b : goal.invariant-loop-b
invariant-loop-b l = has_u (drop l.b-index l.text) ≡ has_u l.text
