use Rattle.std.specs.Int.{w128}
use Rattle.std.proofs.lemmas.Int.{to_z-of_z}
use Rattle.model_types.specs.Types.{form_of_type}
use Rattle.check_constants.proofs.ConstantLaws.{right_fits_in, operated_in}
use Rattle.check_constants.proofs.operations.on_values.Goals as goal

pub operated-requires-clause-right : goal.operated-requires-clause-right
operated-requires-clause-right c =
    right_fits_in c.args.op (form_of_type c.args.left.now) (form_of_type c.args.right.now) c.basic_of.result c.args.a c.args.b _ c.basic_of.ensures
    (to_z-of_z w128 c.args.b c.ranges.b) c.requires.takes c.requires.left c.requires.right

pub returns-clause-fits : goal.returns-clause-fits
returns-clause-fits c =
    operated_in c.args.op c.args.left.now c.args.right.now c.basic_of.result c.args.a c.args.b c.operated.result c.basic_of.ensures c.requires.left c.requires.right c.operated.ensures.fits
