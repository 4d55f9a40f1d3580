use Rattle.check_specifiers.proofs.StorageLaws.{storage_behind}
use Rattle.check_specifiers.proofs.words.storage_of.Goals as goal

pub loop-spec-preserved : goal.loop-spec-preserved
loop-spec-preserved c =
    storage_behind _ _ _ c.args.specs.now c.loop-spec.spec-index c.spec-item.result c.loop-spec-test.true c.spec-item.is c.with_word-storage.ensures c.loop-spec.invariant
