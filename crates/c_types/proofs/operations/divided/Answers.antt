use Rattle.c_types.proofs.Wide.{narrow, quotient_is}
use Rattle.c_types.proofs.operations.divided.Goals as goal

pub returns : goal.returns
returns c =
    quotient_is c.args.left c.args.right (narrow c.args.basic c.args.left c.requires.left) (narrow c.args.basic c.args.right c.requires.right)
