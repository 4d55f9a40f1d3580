use Rattle.std.proofs.Common.{◌≡◌, ◌++◌, ◌+◌, ◌*◌, drop, false}
use Rattle.c89_tree.specs.ProgramNodes89.{types}
use Rattle.model_c89.specs.SpellingParts89.{others_text}
use Rattle.c89_tree.specs.apparatus.UnitSizes.{type_nodes, types_nodes}
use Rattle.c89_writer.proofs.types.+declaration.Given as goal

abbrev pub decreases-push_back : goal.decreases-push_back
decreases-push_back l = 2 * type_nodes l.ty.now

abbrev pub decreases-push_type : goal.decreases-push_type
decreases-push_type l = 2 * type_nodes l.ty.now + 1

abbrev pub decreases-push_parameters : goal.decreases-push_parameters
decreases-push_parameters l = 2 * types_nodes (types l.parameters.now)

abbrev pub decreases-push_others : goal.decreases-push_others
decreases-push_others l = 2 * types_nodes (types l.others.now)

abbrev pub invariant-push_others-loop-other : goal.invariant-push_others-loop-other
invariant-push_others-loop-other l = l.out ++ others_text (types (drop l.other-index l.others)) false ≡ l.initial.out ++ others_text (types l.others) false
