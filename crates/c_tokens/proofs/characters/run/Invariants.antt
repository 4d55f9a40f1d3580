use Rattle.std.proofs.Common.{◌≡◌, ◌+◌, drop}
use Rattle.std.specs.List.{prefix_len}
use Rattle.model_tokens.specs.Digits.{is_digit_of}
use Rattle.c_tokens.proofs.characters.run.Given as goal

abbrev pub invariant-loop-b : goal.invariant-loop-b
invariant-loop-b l = (l.n ≡ l.b-index) × (l.n + prefix_len (is_digit_of l.radix) (drop l.b-index l.text) ≡ prefix_len (is_digit_of l.radix) l.text)
