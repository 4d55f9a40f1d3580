use Rattle.std.proofs.Common.{◌≡◌, drop, map}
use Rattle.model_conditions.specs.ConditionTokens.{sign_in}
use Rattle.pp_conditions.proofs.signs.sign_in.Given as goal

abbrev pub invariant-loop-sign : goal.invariant-loop-sign
invariant-loop-sign l = sign_in (map (λ s. (s.0.now, s.1)) (drop l.sign-index l.table)) l.text ≡ sign_in (map (λ s. (s.0.now, s.1)) l.table) l.text
