use Rattle.std.proofs.Common.{◌≡◌, ◌≤◌, length, drop}
use Rattle.model_scopes.specs.NotedUses as u
use Rattle.decl_scope.proofs.table.Table.first_undefined.Given as goal

abbrev pub invariant-loop-at : goal.invariant-loop-at
invariant-loop-at l =
    (l.at ≤ length l.self-inside.entries.entries)
    × (l.first ≡ u.first_undefined (drop l.at l.self-inside.entries.entries))

abbrev pub decreases-loop-at : goal.decreases-loop-at
decreases-loop-at l = l.at
