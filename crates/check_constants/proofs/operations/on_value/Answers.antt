use Rattle.std.specs.Int.{w128}
use Rattle.std.proofs.lemmas.Int.{to_z-of_z}
use Rattle.check_constants.proofs.ConstantLaws.{negative_in, complement_in}
use Rattle.check_constants.proofs.operations.on_value.Goals as goal

pub returns-in-Minus-clause-fits : goal.returns-in-Minus-clause-fits
returns-in-Minus-clause-fits c =
    negative_in c.args.op c.args.ty.now c.basic_of-basic.result c.args.value c.negative.result c.in-Minus.is c.basic_of-basic.ensures c.requires.fits c.negative.ensures.fits

pub returns-in-Complement-clause-fits : goal.returns-in-Complement-clause-fits
returns-in-Complement-clause-fits c =
    complement_in c.args.op c.args.ty.now c.basic_of-basic.result c.args.value c.complement.result _ c.in-Complement.is
    (to_z-of_z w128 c.complement.result (record { sfits = c.complement.type_inv })) c.basic_of-basic.ensures c.requires.fits c.complement.ensures.fits
