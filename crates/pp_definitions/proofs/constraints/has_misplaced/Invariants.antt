use Rattle.std.proofs.Common.{◌≡◌, false, length}
use Rattle.model_macros.specs.MacroDefinitions.{misplaced}
use Rattle.pp_definitions.proofs.constraints.has_misplaced.Given as goal

abbrev pub invariant-loop-piece : goal.invariant-loop-piece
invariant-loop-piece l = misplaced l.variadic l.inside l.rest ≡ misplaced l.variadic false l.fn.pieces

abbrev pub decreases-loop-piece : goal.decreases-loop-piece
decreases-loop-piece l = length l.rest
