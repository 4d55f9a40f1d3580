use Rattle.std.proofs.Common.{◌≡◌, true}
use Rattle.check_specifiers.proofs.CombinationLaws.{uncombined_on}
use Rattle.check_specifiers.proofs.combinations.first_uncombined.Goals as goal

pub loop-at-preserved : goal.loop-at-preserved
loop-at-preserved c =
    let t : c.combines.result ≡ true = cc in
    uncombined_on c.args.specs.now _ c.loop-at.at c.index-specs-at.result _ _ c.loop-at-test.true c.index-specs-at.is c.split_at.ensures.front c.combines.ensures t c.loop-at.invariant
