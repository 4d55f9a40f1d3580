use Rattle.std.proofs.Common.{◌<◌, arith}
use Rattle.model_types.specs.Types as ty
use Rattle.c_types.proofs.Lists.{unlike, one_is_smaller}
use Rattle.c_types.proofs.compat.+compatible.Goals as goal

pub compatible_lists-returns-then-a-b : goal.compatible_lists-returns-then-a-b
compatible_lists-returns-then-a-b t c = unlike c.args.a.now c.args.b.now (λ e. grind (arith, e))

pub compatible_lists-compatible_passed-requires : goal.compatible_lists-compatible_passed-requires
compatible_lists-compatible_passed-requires t c =
    let less : ty.type_nodes c.one-item.result < ty.types_nodes (ty.types c.args.a.now) =
    one_is_smaller c.args.a.now c.loop-one.one-index c.one-item.result c.loop-one-test.true c.one-item.is in
    (omega (arith, less), tt)
