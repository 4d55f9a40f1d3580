use Rattle.std.proofs.Common.{◌≡◌, length}
use Rattle.model_conditions.specs.apparatus.ConditionReader.{filled}
use Rattle.model_conditions.specs.ConditionReading.{computed}
use Rattle.pp_conditions.specs.Shown.{all}
use Rattle.pp_conditions.proofs.frames.fill.Given as goal

abbrev pub invariant-loop-frames : goal.invariant-loop-frames
invariant-loop-frames l = filled computed l.kind (all l.frames) l.filled ≡ filled computed l.kind (all l.fn.frames) l.fn.operand

abbrev pub decreases-loop-frames : goal.decreases-loop-frames
decreases-loop-frames l = length l.frames
