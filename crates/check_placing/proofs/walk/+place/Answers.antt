use Rattle.std.proofs.Common.{arith}
use Rattle.check_placing.proofs.ItemLaws.{item_in_list}
use Rattle.check_placing.proofs.walk.+place.Goals as goal

pub place_list-pass_item-requires : goal.place_list-pass_item-requires
place_list-pass_item-requires t c =
    (omega (arith, c.decreases, item_in_list c.args.items.now c.loop-item.item-index c.item-item.result c.loop-item-test.true c.item-item.is), tt)
