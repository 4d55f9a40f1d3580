use Rattle.std.proofs.Common.{◌≡◌, drop}
use Rattle.cake_base.specs.Doubles.{listed_limit}
use Rattle.cake_base.proofs.memory.limit_of.Given as goal

abbrev pub invariant-loop-other : goal.invariant-loop-other
invariant-loop-other l = listed_limit (drop l.other-index l.limits) l.number ≡ listed_limit l.limits l.number
