use Rattle.std.proofs.Common.{◌≡◌, ◌≤◌, ◌+◌, drop}
use Rattle.model_preprocessing.specs.Place.{behind_all, first_position}
use Rattle.pp_directives.proofs.whole.behind_all.Given as goal

abbrev pub invariant-loop-byte : goal.invariant-loop-byte
invariant-loop-byte l = record {
  so_far : behind_all l.at (drop l.byte-index l.text) ≡ behind_all first_position l.text;
  lines : l.at.line ≤ l.byte-index + 1;
  columns : l.at.column ≤ l.byte-index + 1;
}
