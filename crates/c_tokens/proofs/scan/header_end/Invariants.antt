use Rattle.std.proofs.Common.{◌≡◌, ◌+◌, length}
use Rattle.model_tokens.specs.JoinedLines.{bytes}
use Rattle.model_tokens.specs.PpSteps.{header_end, further}
use Rattle.c_tokens.proofs.scan.header_end.Given as goal

abbrev pub invariant-loop-cell : goal.invariant-loop-cell
invariant-loop-cell l = (further l.len (header_end (bytes l.from)) ≡ header_end (bytes l.initial.from)) × (l.len + length l.from ≡ length l.initial.from)

abbrev pub decreases-loop-cell : goal.decreases-loop-cell
decreases-loop-cell l = length l.from
