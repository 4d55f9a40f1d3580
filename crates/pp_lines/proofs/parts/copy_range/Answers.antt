use Rattle.std.proofs.Common.{sym}
use Rattle.pp_lines.proofs.SplitLaws.{range-step}
use Rattle.pp_lines.proofs.parts.copy_range.Goals as goal

pub loop-at-preserved : goal.loop-at-preserved
loop-at-preserved c =
    range-step c.args.toks.now c.loop-at.at c.args.to c.in-Some.tok.now c.in_ok-copy.field-0 c.loop-at.into c.push.new.self _ (sym c.in-Some.ensures) c.loop-at-test.true c.in_ok-copy.ensures c.in_ok-push.ensures.ok c.loop-at.invariant
