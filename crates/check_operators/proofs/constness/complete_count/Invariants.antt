use Rattle.std.proofs.Common.{◌≡◌, ◌+◌, ◌≤◌, drop}
use Rattle.model_types.specs.Layout.{complete_count}
use Rattle.check_operators.proofs.constness.complete_count.Given as goal

abbrev pub invariant-loop-at : goal.invariant-loop-at
invariant-loop-at l = (l.count ≤ l.at) × (l.count + complete_count (drop l.at l.structs) ≡ complete_count l.structs)
