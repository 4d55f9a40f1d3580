use Rattle.std.proofs.Common.{◌≡◌, ◌≤◌, length, take, reverse}
use Rattle.model_scopes.specs.Binding as b
use Rattle.decl_scope.proofs.around.Around.look.Given as goal

abbrev pub invariant-loop-at : goal.invariant-loop-at
invariant-loop-at l =
    (l.at ≤ length l.self-inside.levels.items)
    × (b.bound_among l.tag l.name (reverse (take l.at l.self-inside.levels.items)) ≡ b.bound_among l.tag l.name (reverse l.self-inside.levels.items))

abbrev pub decreases-loop-at : goal.decreases-loop-at
decreases-loop-at l = l.at
