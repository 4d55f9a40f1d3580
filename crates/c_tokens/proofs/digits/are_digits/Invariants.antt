use Rattle.std.proofs.Common.{◌≡◌, drop, false}
use Rattle.model_tokens.specs.Digits.{digits_from}
use Rattle.c_tokens.proofs.digits.are_digits.Given as goal

abbrev pub invariant-loop-b : goal.invariant-loop-b
invariant-loop-b l = digits_from l.radix l.before (drop l.b-index l.text) ≡ digits_from l.radix false l.text
