use Rattle.std.proofs.Common.{◌≡◌, ◌≤◌, ◌+◌, ◌*◌, length, drop}
use Rattle.model_types.specs.Types as t
use Rattle.model_core.specs.SameTypes as m
use Rattle.c_types.specs.Forms.{form_of}
use Rattle.check_types.proofs.same.+same.Given as goal

abbrev pub invariant-same_lists-loop-at : goal.invariant-same_lists-loop-at
invariant-same_lists-loop-at l =
    m.same_types (t.types (drop l.at l.a)) (t.types (drop l.at l.b)) ≡ m.same_types (t.types l.a) (t.types l.b)

abbrev pub decreases-same_type : goal.decreases-same_type
decreases-same_type l = 2 * t.type_nodes l.a.now

abbrev pub decreases-same_forms : goal.decreases-same_forms
decreases-same_forms l = 2 * t.form_nodes (form_of l.a.now) + 1

abbrev pub decreases-same_lists : goal.decreases-same_lists
decreases-same_lists l = 2 * t.types_nodes (t.types l.a.now)
