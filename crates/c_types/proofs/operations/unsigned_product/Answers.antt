use Rattle.c_types.proofs.Wide.{unsigned_case}
use Rattle.c_types.proofs.operations.unsigned_product.Goals as goal

pub returns-clause-value : goal.returns-clause-value
returns-clause-value c =
    unsigned_case c.args.basic c.args.left c.args.right c.modulus.result c.value_of.result c.requires.unsigned c.requires.left c.requires.right
    c.modulus.ensures (record { sfits = c.modulus.type_inv }) c.value_of.ensures.value c.value_of.ensures.fits
