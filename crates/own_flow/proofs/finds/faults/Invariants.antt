use Rattle.std.proofs.Common.{◌≡◌, map, take}
use Rattle.own_flow.specs.Ranks.{fault_of}
use Rattle.own_flow.proofs.finds.faults.Given as goal

abbrev pub invariant-loop-ranked : goal.invariant-loop-ranked
invariant-loop-ranked l = l.findings ≡ map fault_of (take l.ranked-index l.list)
