use Rattle.std.proofs.Common.{◌≡◌, ◌++◌, ◌≤◌, drop}
use Rattle.model_macros.specs.MacroDefinitions.{signature}
use Rattle.model_macros.specs.ReplacementLists.{pieces, pieces_from}
use Rattle.pp_definitions.proofs.pieces.read_pieces.Given as goal

abbrev pub invariant-loop-at : goal.invariant-loop-at
invariant-loop-at l = record {
  so_far : l.pieces ++ pieces_from (signature l.heading) l.last l.depth (drop l.at l.line) ≡ pieces (signature l.heading) (drop l.from l.line);
  shallow : l.depth ≤ l.at;
}
