use Rattle.std.proofs.Common.{◌≡◌, ◌+◌, drop}
use Rattle.std.specs.List.{prefix_len}
use Rattle.model_tokens.specs.IntegerConstants.{is_before_suffix}
use Rattle.c_tokens.proofs.integers.digits_length.Given as goal

abbrev pub invariant-loop-b : goal.invariant-loop-b
invariant-loop-b l = (l.n ≡ l.b-index) × (l.n + prefix_len is_before_suffix (drop l.b-index l.text) ≡ prefix_len is_before_suffix l.text)
