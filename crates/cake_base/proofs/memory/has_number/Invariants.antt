use Rattle.std.proofs.Common.{◌≡◌, drop}
use Rattle.cake_base.specs.Doubles.{is_listed}
use Rattle.cake_base.proofs.memory.has_number.Given as goal

abbrev pub invariant-loop-other : goal.invariant-loop-other
invariant-loop-other l = is_listed (drop l.other-index l.numbers) l.number ≡ is_listed l.numbers l.number
