use Rattle.std.proofs.Common.{◌<◌, arith}
use Rattle.c89_tree.specs.ProgramNodes89.{exprs}
use Rattle.c89_tree.specs.apparatus.UnitSizes.{expr_nodes, exprs_nodes}
use Rattle.c89_writer.proofs.Smaller.{one_expr}
use Rattle.c89_writer.proofs.expressions.+expression.Goals as goal

pub push_more_arguments-push_expr-requires : goal.push_more_arguments-push_expr-requires
push_more_arguments-push_expr-requires t c =
    let less : expr_nodes c.argument-item.result < exprs_nodes (exprs c.args.arguments.now) =
    one_expr c.args.arguments.now c.loop-argument.argument-index c.argument-item.result c.loop-argument-test.true c.argument-item.is in
    (omega (arith, less), tt)
