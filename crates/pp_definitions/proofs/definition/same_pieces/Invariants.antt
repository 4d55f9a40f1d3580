use Rattle.std.proofs.Common.{◌≡◌, length}
use Rattle.model_macros.specs.Macros.{same_pieces}
use Rattle.pp_definitions.proofs.definition.same_pieces.Given as goal

abbrev pub invariant-loop-piece : goal.invariant-loop-piece
invariant-loop-piece l = same_pieces l.rest l.left ≡ same_pieces l.fn.pieces l.fn.others

abbrev pub decreases-loop-piece : goal.decreases-loop-piece
decreases-loop-piece l = length l.rest
