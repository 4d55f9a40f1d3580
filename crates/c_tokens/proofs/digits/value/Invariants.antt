use Rattle.std.proofs.Common.{◌≡◌, ◌^◌, ◌≤◌, drop, min}
use Rattle.model_tokens.specs.Digits.{value_from}
use Rattle.c_tokens.proofs.digits.value.Given as goal

abbrev pub invariant-loop-b : goal.invariant-loop-b
invariant-loop-b l = (l.value ≤ 2 ^ 64) × (min (value_from l.radix l.value (drop l.b-index l.text)) (2 ^ 64) ≡ min (value_from l.radix 0 l.text) (2 ^ 64))
