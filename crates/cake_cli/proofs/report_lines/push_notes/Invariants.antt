use Rattle.std.proofs.Common.{◌≡◌, ◌++◌, drop}
use Rattle.cake_cli.specs.ReportLines.{note_lines}
use Rattle.cake_cli.proofs.report_lines.push_notes.Given as goal

abbrev pub invariant-loop-at : goal.invariant-loop-at
invariant-loop-at l = l.out ++ note_lines l.log (drop l.at l.notes) ≡ l.initial.out ++ note_lines l.log l.notes
