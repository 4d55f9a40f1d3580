use Rattle.std.proofs.Common.{◌≡◌, ◌+◌, length}
use Rattle.std.specs.List.{prefix_len}
use Rattle.model_tokens.specs.JoinedLines.{bytes}
use Rattle.model_tokens.specs.PpSteps.{closing, further, is_in_line}
use Rattle.c_tokens.proofs.scan.closing.Given as goal

abbrev pub invariant-loop-cell : goal.invariant-loop-cell
invariant-loop-cell l = record {
  same : further l.len (closing l.quote l.escaped (bytes l.from)) ≡ closing l.quote l.initial.escaped (bytes l.initial.from);
  within : l.len + length l.from ≡ length l.initial.from;
  line : l.len + prefix_len is_in_line (bytes l.from) ≡ prefix_len is_in_line (bytes l.initial.from);
}

abbrev pub decreases-loop-cell : goal.decreases-loop-cell
decreases-loop-cell l = length l.from
