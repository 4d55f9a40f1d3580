use Rattle.std.proofs.Common.{◌≡◌, ◌<◌, ◌≤◌, arith, length}
use Rattle.check_operators.proofs.CountLaws.{count_on, all_counted}
use Rattle.check_operators.proofs.constness.complete_count.Goals as goal

pub loop-at-preserved : goal.loop-at-preserved
loop-at-preserved c =
    let within : c.loop-at.at < length c.args.structs.now = omega (arith, c.loop-at-test.true, c.count-at-end.ensures) in
    count_on c.args.structs.now c.loop-at.at c.loop-at.count c.counted-count.result within c.loop-at.invariant.0 c.counted-count.ensures c.loop-at.invariant.1

pub returns : goal.returns
returns c =
    let behind : length c.args.structs.now ≤ c.loop-at.at = omega (arith, c.loop-at-test.false, c.count-at-end.ensures) in
    all_counted c.args.structs.now c.loop-at.at c.loop-at.count behind c.loop-at.invariant.1
