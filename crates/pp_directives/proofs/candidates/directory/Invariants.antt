use Rattle.std.proofs.Common.{◌≡◌, ◌≤◌, drop, length, None}
use Rattle.model_preprocessing.specs.Includes.{directory}
use Rattle.pp_directives.proofs.candidates.directory.Given as goal

abbrev pub invariant-loop-at : goal.invariant-loop-at
invariant-loop-at l = (directory (drop l.at l.name) ≡ None) × (l.at ≤ length l.name)

abbrev pub decreases-loop-at : goal.decreases-loop-at
decreases-loop-at l = l.at
