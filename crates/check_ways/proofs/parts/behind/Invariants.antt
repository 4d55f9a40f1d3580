use Rattle.std.proofs.Common.{◌≡◌, length}
use Rattle.model_checking.specs.Ways.{behind}
use Rattle.check_ways.proofs.parts.behind.Given as goal

abbrev pub invariant-loop-last : goal.invariant-loop-last
invariant-loop-last l = behind l.structs l.way ≡ behind l.structs l.initial.way

abbrev pub decreases-loop-last : goal.decreases-loop-last
decreases-loop-last l = length l.way
