use Rattle.std.proofs.Common.{◌≡◌, ◌+◌, ◌≤◌, drop}
use Rattle.c89_tree.specs.UnitProgramForms.{object_count_of}
use Rattle.c89_tree.proofs.unit_program.object_count.Given as goal

abbrev pub invariant-loop-outer : goal.invariant-loop-outer
invariant-loop-outer l = (l.count + object_count_of (drop l.outer-index l.outers) ≡ object_count_of l.outers) × (l.count ≤ l.outer-index)
