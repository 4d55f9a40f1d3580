use Rattle.std.proofs.Common.{arith, ap}
use Rattle.model_types.specs.Types as t
use Rattle.check_types.proofs.ParameterLaws.{type_in_list, parameters_in_type, composed_all}
use Rattle.check_types.proofs.composites.+composite.Goals as goal

pub composite-composite_types-requires : goal.composite-composite_types-requires
composite-composite_types-requires n c =
    let f = c.in-Function-Function in
    (omega (arith, c.decreases, ap (λ z. t.types_nodes (t.types z)) c.as_slice.ensures, parameters_in_type c.args.a.now c.form.result.now f.r f.ps f.variadic c.form.ensures f.is-0), tt)

pub composite_types-composite_or_copy-requires : goal.composite_types-composite_or_copy-requires
composite_types-composite_or_copy-requires n c =
    (omega (arith, c.decreases, type_in_list c.args.ps.now c.loop-at.at c.index-ps-at.result c.loop-at-test.true c.index-ps-at.is), tt)

pub composite_types-returns : goal.composite_types-returns
composite_types-returns n c = composed_all c.loop-at.made c.args.ps.now c.args.qs.now c.loop-at.at c.loop-at-test.false c.loop-at.invariant
