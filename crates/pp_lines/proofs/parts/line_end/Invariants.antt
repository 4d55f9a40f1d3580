use Rattle.std.proofs.Common.{◌≡◌, ◌+◌, ◌≤◌, ◌<◌, drop, length}
use Rattle.std.specs.List.{prefix_len}
use Rattle.pp_lines.specs.Parts.{line_length, continues}
use Rattle.pp_lines.proofs.parts.line_end.Given as goal

abbrev pub invariant-loop-at : goal.invariant-loop-at
invariant-loop-at l = l.at + prefix_len continues (drop l.at l.toks) ≡ l.from + line_length (drop l.from l.toks)
