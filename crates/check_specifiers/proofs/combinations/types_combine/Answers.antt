use Rattle.std.proofs.Common.{◌≡◌, false}
use Rattle.check_specifiers.proofs.CombinationLaws.{combined_on}
use Rattle.check_specifiers.proofs.combinations.types_combine.Goals as goal

pub loop-at-preserved : goal.loop-at-preserved
loop-at-preserved c =
    let t : c.is_in_the_way.result ≡ false = cc in
    combined_on c.args.specs.now _ c.loop-at.at c.index-specs-at.result _ _ c.loop-at-test.true c.index-specs-at.is c.split_at.ensures.front c.is_in_the_way.ensures t c.loop-at.invariant
