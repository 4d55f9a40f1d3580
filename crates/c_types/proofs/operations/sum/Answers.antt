use Rattle.std.proofs.Common.{◌∙◌, ap}
use Rattle.model_types.specs.Operations as m
use Rattle.c_types.proofs.Wide.{narrow, sum_is}
use Rattle.c_types.proofs.operations.sum.Goals as goal

pub returns-clause-value : goal.returns-clause-value
returns-clause-value c =
    c.result_in.ensures.value
    ∙ ap (m.result_in c.args.basic) (sum_is c.args.left c.args.right (narrow c.args.basic c.args.left c.requires.left) (narrow c.args.basic c.args.right c.requires.right))
