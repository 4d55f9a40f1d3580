use Rattle.std.proofs.Common.{◌<◌, arith}
use Rattle.c89_tree.specs.ProgramNodes89.{inits}
use Rattle.c89_tree.specs.apparatus.UnitSizes.{init_nodes, inits_nodes}
use Rattle.c89_writer.proofs.Smaller.{one_init}
use Rattle.c89_writer.proofs.initializers.+initializer.Goals as goal

pub push_inits-push_init-requires : goal.push_inits-push_init-requires
push_inits-push_init-requires t c =
    let less : init_nodes c.other-item.result < inits_nodes (inits c.args.others.now) =
    one_init c.args.others.now c.loop-other.other-index c.other-item.result c.loop-other-test.true c.other-item.is in
    (omega (arith, less), tt)
