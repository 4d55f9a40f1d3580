use Rattle.pp_macros.proofs.GoOnLaws.{fresh-step}
use Rattle.pp_macros.proofs.expansion.fresh_run.Goals as goal

pub loop-at-preserved : goal.loop-at-preserved
loop-at-preserved c = fresh-step c.args.toks.now c.loop-at.at c.in-Some.tok.now c.in_ok-copy.field-0 c.fresh.result c.loop-at.run c.push.new.self _ c.in-Some.ensures c.in_ok-copy.ensures c.fresh.ensures c.in_ok-push.ensures c.loop-at.invariant
