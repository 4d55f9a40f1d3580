use Rattle.std.proofs.Common.{◌≡◌, ◌<◌, ap, arith}
use Rattle.c89_tree.specs.ProgramNodes89.{stats, items}
use Rattle.c89_tree.specs.apparatus.UnitSizes.{stat_nodes, stats_nodes, items_nodes}
use Rattle.c89_writer.proofs.Smaller.{one_stat, one_item}
use Rattle.c89_writer.proofs.statements.+statement.Goals as goal

pub push_each-push_stat-requires : goal.push_each-push_stat-requires
push_each-push_stat-requires t c =
    let less : stat_nodes c.stat-item.result < stats_nodes (stats c.args.list.now) =
    one_stat c.args.list.now c.loop-stat.stat-index c.stat-item.result c.loop-stat-test.true c.stat-item.is in
    (omega (arith, less), tt)

pub push_items-push_stat-requires : goal.push_items-push_stat-requires
push_items-push_stat-requires t c =
    let less : stat_nodes c.item-item.result.stat < items_nodes (items c.args.list.now) =
    one_item c.args.list.now c.loop-item.item-index c.item-item.result c.loop-item-test.true c.item-item.is in
    let same : stat_nodes c.form-form.result.now.stat ≡ stat_nodes c.item-item.result.stat = ap (λ i. stat_nodes i.stat) c.form-form.ensures in
    (omega (arith, less, same), tt)
