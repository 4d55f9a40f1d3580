use Rattle.std.proofs.Common.{◌≡◌, ◌++◌, length}
use Rattle.model_macros.specs.Pasting.{without_placemarkers}
use Rattle.pp_macros.proofs.pasting.without_placemarkers.Given as goal

abbrev pub invariant-loop-p : goal.invariant-loop-p
invariant-loop-p l = l.row ++ without_placemarkers l.rest ≡ without_placemarkers l.initial.rest

abbrev pub decreases-loop-p : goal.decreases-loop-p
decreases-loop-p l = length l.rest
