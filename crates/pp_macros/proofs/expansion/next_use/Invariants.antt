use Rattle.std.proofs.Common.{◌≡◌, length}
use Rattle.pp_macros.specs.Machine.{from_wanted}
use Rattle.pp_macros.proofs.expansion.next_use.Given as goal

abbrev pub invariant-loop-asked : goal.invariant-loop-asked
invariant-loop-asked l = from_wanted l.args l.last l.uses ≡ from_wanted l.args l.last l.initial.uses

abbrev pub decreases-loop-asked : goal.decreases-loop-asked
decreases-loop-asked l = length l.uses
