use Rattle.std.proofs.Common.{◌<◌, [], arith}
use Rattle.std.proofs.lemmas.Grind.{common_steps}
use Rattle.c89_tree.specs.ProgramNodes89.{types}
use Rattle.c89_tree.specs.apparatus.UnitSizes.{type_nodes, types_nodes}
use Rattle.c89_writer.proofs.SideLaws.{declared, parameters_behind}
use Rattle.c89_writer.proofs.Smaller.{one_type}
use Rattle.c89_writer.proofs.types.+declaration.Goals as goal

pub push_others-push_type-requires : goal.push_others-push_type-requires
push_others-push_type-requires t c =
    let less : type_nodes c.other-item.result < types_nodes (types c.args.others.now) =
    one_type c.args.others.now c.loop-other.other-index c.other-item.result c.loop-other-test.true c.other-item.is in
    (omega (arith, less), tt)

pub push_parameters-returns : goal.push_parameters-returns
push_parameters-returns t c =
    rw (parameters_behind c.args.parameters.now c.in-Some.first.now c.in-Some.others.now c.args.is_variadic c.in-Some.ensures.cases.0) (grind (arith, common_steps))

pub push_type-returns : goal.push_type-returns
push_type-returns t c = rw (declared c.args.ty.now []) (grind (arith, common_steps))
