use Rattle.c_types.proofs.Wide.{narrow, signed_product_fits, product_is, product_fits}
use Rattle.c_types.proofs.operations.signed_product.Goals as goal

pub overflow_mul-result : goal.overflow_mul-result
overflow_mul-result c =
    product_fits c.args.left c.args.right (narrow c.args.basic c.args.left c.requires.left) (narrow c.args.basic c.args.right c.requires.right)
    (signed_product_fits c.args.basic c.args.left c.args.right c.requires.signed c.requires.left c.requires.right)

pub returns : goal.returns
returns c =
    product_is c.args.left c.args.right (narrow c.args.basic c.args.left c.requires.left) (narrow c.args.basic c.args.right c.requires.right)
    (signed_product_fits c.args.basic c.args.left c.args.right c.requires.signed c.requires.left c.requires.right)
