use Rattle.std.proofs.Common.{◌∙◌, sym}
use Rattle.pp_directives.proofs.StateLaws.{standing-step, moved}
use Rattle.pp_directives.proofs.unit.standing_all.Goals as goal

pub loop-at-preserved : goal.loop-at-preserved
loop-at-preserved c =
    let is = moved c.args.count c.in-Some.tok.now _ c.standing-copy-inside.result (c.copy-in-loop-at.view_is ∙ c.in_ok-copy.ensures) c.standing-copy-inside.ensures in
    standing-step c.args.count c.loop-at.at c.args.toks.now c.in-Some.tok.now _ c.loop-at.list c.push.new.self _ (sym c.in-Some.ensures) is c.in_ok-push.ensures.ok c.loop-at.invariant
