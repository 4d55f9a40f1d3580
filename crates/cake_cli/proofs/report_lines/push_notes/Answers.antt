use Rattle.std.proofs.Common.{sym}
use Rattle.cake_cli.proofs.NoteLaws.{one_note}
use Rattle.cake_cli.proofs.report_lines.push_notes.Goals as goal

pub loop-at-preserved : goal.loop-at-preserved
loop-at-preserved c =
    one_note c.args.log.now c.loop-at.out c.push_note.new.out _ c.notes-notes.result.now c.loop-at.at c.in-Some.note.now (sym c.in-Some.ensures) c.in_ok-push_note.ensures c.loop-at.invariant
