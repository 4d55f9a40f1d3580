use Rattle.std.proofs.Common.{◌∙◌, ap, sym}
use Rattle.core_tree.specs.CoreForms.{expr_of}
use Rattle.check_constants.proofs.ConstantLaws.{binary_takes, second_in}
use Rattle.check_constants.proofs.constants.+constant_value.Goals as goal

pub of_binary-requires-clause-takes : goal.of_binary-requires-clause-takes
of_binary-requires-clause-takes t c =
    binary_takes c.args.e.now c.in-Binary.op c.in-Binary.left c.in-Binary.right c.in-Binary.mark c.ty-in-Binary.result.now c.ty-in-Binary-2.result.now
    (sym c.form.ensures.tree ∙ ap expr_of c.in-Binary.is) c.form.ensures.typed c.ty-in-Binary.ensures c.ty-in-Binary-2.ensures

pub of_choice-requires-clause-second : goal.of_choice-requires-clause-second
of_choice-requires-clause-second t c =
    second_in c.args.e.now c.in-Choice.condition c.in-Choice.first c.in-Choice.second c.in-Choice.mark c.constant_value-in-Choice-3.result
    c.ty-in-Choice.result.now (sym c.form.ensures.tree ∙ ap expr_of c.in-Choice.is) c.form.ensures.typed c.ty-in-Choice.ensures
    c.constant_value-in-Choice-3.ensures.fits
