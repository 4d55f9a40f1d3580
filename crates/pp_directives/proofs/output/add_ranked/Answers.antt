use Rattle.std.proofs.Common.{◌≡◌, ◌+◌, length, arith, ap, ◌∙◌, sym}
use Rattle.std.proofs.lemmas.List.{length-append}
use Rattle.pp_directives.proofs.StateLaws.{ranked-step, moved}
use Rattle.pp_directives.proofs.output.add_ranked.Goals as goal

pub loop-at-preserved : goal.loop-at-preserved
loop-at-preserved c =
    let is = moved (c.args.rank + c.loop-at.at) c.in-Some.tok.now _ c.standing-copy-inside.result (c.copy-in-loop-at.view_is ∙ c.in_ok-copy.ensures) c.standing-copy-inside.ensures in
    record {
      so_far = ranked-step c.args.rank c.loop-at.at c.args.new.now c.in-Some.tok.now _ c.loop-at.tokens c.push.new.self _ (sym c.in-Some.ensures) is c.in_ok-push.ensures.ok c.loop-at.invariant.so_far;
      count = let e : length c.push.new.self ≡ length c.loop-at.tokens + 1 = ap length c.in_ok-push.ensures.ok ∙ length-append c.loop-at.tokens _ in omega (arith, e, c.loop-at.invariant.count);
    }
