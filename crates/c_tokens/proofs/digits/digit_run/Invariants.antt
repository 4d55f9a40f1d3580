use Rattle.std.proofs.Common.{◌≡◌, ◌+◌, drop}
use Rattle.model_tokens.specs.Digits.{digit_run}
use Rattle.c_tokens.proofs.digits.digit_run.Given as goal

abbrev pub invariant-loop-b : goal.invariant-loop-b
invariant-loop-b l = (l.n ≡ l.b-index) × (l.n + digit_run l.radix (drop l.b-index l.text) ≡ digit_run l.radix l.text)
