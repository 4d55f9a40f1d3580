use Rattle.std.proofs.Common.{◌≡◌, true, length}
use Rattle.model_macros.specs.MacroDefinitions.{paste_at_edge}
use Rattle.pp_definitions.proofs.constraints.has_paste_at_edge.Given as goal

abbrev pub invariant-loop-piece : goal.invariant-loop-piece
invariant-loop-piece l = paste_at_edge l.edge l.rest ≡ paste_at_edge true l.fn.pieces

abbrev pub decreases-loop-piece : goal.decreases-loop-piece
decreases-loop-piece l = length l.rest
