use Rattle.std.proofs.Common.{◌+◌}
use Rattle.model_types.specs.Types.{form_of_type}
use Rattle.model_checking.specs.Ways.{reached}
use Rattle.check_ways.proofs.InwardSteps.{inward_steps, form_steps, struct_steps}
use Rattle.check_ways.proofs.takers.+taker.Given as goal

abbrev pub decreases-go_inward : goal.decreases-go_inward
decreases-go_inward l = inward_steps (struct_steps l.structs.now l.depth) (reached l.object.now l.way.now)

abbrev pub decreases-enter : goal.decreases-enter
decreases-enter l = form_steps (struct_steps l.structs.now l.depth) l.whole.now (form_of_type l.whole.now) + 1

abbrev pub decreases-enter_structure : goal.decreases-enter_structure
decreases-enter_structure l = struct_steps l.structs.now l.depth l.whole.now l.id
