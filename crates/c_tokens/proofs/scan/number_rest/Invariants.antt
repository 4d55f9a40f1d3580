use Rattle.std.proofs.Common.{◌≡◌, ◌+◌, length}
use Rattle.model_tokens.specs.JoinedLines.{bytes}
use Rattle.model_tokens.specs.PpSteps.{number_rest}
use Rattle.c_tokens.proofs.scan.number_rest.Given as goal

abbrev pub invariant-loop-cell : goal.invariant-loop-cell
invariant-loop-cell l = (l.len + number_rest l.before (bytes l.from) ≡ number_rest l.initial.before (bytes l.initial.from)) × (l.len + length l.from ≡ length l.initial.from)

abbrev pub decreases-loop-cell : goal.decreases-loop-cell
decreases-loop-cell l = length l.from
