use Rattle.std.proofs.Common.{◌≡◌, ◌≤◌, ◌+◌, ◌*◌, ◌++◌, length, drop}
use Rattle.model_types.specs.Types as t
use Rattle.check_types.specs.Parameters.{composites}
use Rattle.check_types.proofs.composites.+composite.Given as goal

abbrev pub invariant-composite_types-loop-at : goal.invariant-composite_types-loop-at
invariant-composite_types-loop-at l = l.made ++ composites (drop l.at l.ps) (drop l.at l.qs) ≡ composites l.ps l.qs

abbrev pub decreases-composite : goal.decreases-composite
decreases-composite l = 2 * t.type_nodes l.a.now

abbrev pub decreases-composite_or_copy : goal.decreases-composite_or_copy
decreases-composite_or_copy l = 2 * t.type_nodes l.p.now + 1

abbrev pub decreases-composite_types : goal.decreases-composite_types
decreases-composite_types l = 2 * t.types_nodes (t.types l.ps.now)
