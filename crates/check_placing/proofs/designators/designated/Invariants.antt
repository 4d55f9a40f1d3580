use Rattle.std.proofs.Common.{◌≡◌, drop}
use Rattle.given_tree.specs.GivenViews.{steps_of}
use Rattle.model_checking.specs.Placing.{designated}
use Rattle.check_placing.proofs.designators.designated.Given as goal

abbrev pub invariant-loop-step : goal.invariant-loop-step
invariant-loop-step l =
    designated l.structs l.object (steps_of (drop l.step-index l.steps)) l.way ≡ designated l.structs l.object (steps_of l.steps) l.initial.way
