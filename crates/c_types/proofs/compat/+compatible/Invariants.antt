use Rattle.std.proofs.Common.{◌+◌, ◌*◌}
use Rattle.model_types.specs.Types as t
use Rattle.c_types.specs.Forms.{form_of}
use Rattle.c_types.proofs.Lists.{IsPassed}
use Rattle.c_types.proofs.compat.+compatible.Given as goal

abbrev pub decreases-are_compatible : goal.decreases-are_compatible
decreases-are_compatible l = 2 * t.type_nodes l.a.now

abbrev pub decreases-compatible_passed : goal.decreases-compatible_passed
decreases-compatible_passed l = 2 * t.type_nodes l.a.now

abbrev pub decreases-compatible_forms : goal.decreases-compatible_forms
decreases-compatible_forms l = 2 * t.form_nodes (form_of l.a.now) + 1

abbrev pub decreases-compatible_lists : goal.decreases-compatible_lists
decreases-compatible_lists l = 2 * t.types_nodes (t.types l.a.now)

abbrev pub invariant-compatible_lists-loop-one : goal.invariant-compatible_lists-loop-one
invariant-compatible_lists-loop-one l = IsPassed l.a l.b l.one-index l.at
