use Rattle.std.proofs.Common.{◌≡◌, ◌+◌, length}
use Rattle.std.specs.List.{prefix_len}
use Rattle.model_tokens.specs.JoinedLines.{bytes}
use Rattle.c_tokens.specs.Classes.{is_in}
use Rattle.c_tokens.proofs.scan.span.Given as goal

abbrev pub invariant-loop-cell : goal.invariant-loop-cell
invariant-loop-cell l = (l.len + prefix_len (is_in l.class) (bytes l.from) ≡ prefix_len (is_in l.class) (bytes l.initial.from)) × (l.len + length l.from ≡ length l.initial.from)

abbrev pub decreases-loop-cell : goal.decreases-loop-cell
decreases-loop-cell l = length l.from
