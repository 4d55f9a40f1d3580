use Rattle.std.proofs.Common.{◌↔◌, Contains}
use Rattle.own_flow.specs.declared.ranks.Ranked.{Ranked}
use Rattle.own_flow.specs.Ranks.{fault_of}
use Rattle.own_flow.specs.Exploration.{BreaksBelow}
use Rattle.own_flow.proofs.finds.collect.Given as goal

abbrev pub invariant-loop-edge : goal.invariant-loop-edge
invariant-loop-edge l = (r : Ranked) → Contains l.list.items r ↔ BreaksBelow l.search l.edges l.edge-index (fault_of r)
