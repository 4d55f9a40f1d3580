use Rattle.std.proofs.Common.{◌≡◌, ◌+◌, ◌^◌, ◌<◌, length}
use Rattle.model_tokens.specs.JoinedLines.{cells_from}
use Rattle.c_tokens.proofs.cursor.next_of.Given as goal

abbrev pub invariant-loop-text : goal.invariant-loop-text
invariant-loop-text l = (cells_from l.line l.column l.text ≡ cells_from l.initial.line l.initial.column l.initial.text) × (l.line + length l.text < 2 ^ 32) × (l.column + length l.text < 2 ^ 32)

abbrev pub decreases-loop-text : goal.decreases-loop-text
decreases-loop-text l = length l.text
