use Rattle.c_types.proofs.Wide.{factors_fit, multiplied_case}
use Rattle.c_types.proofs.operations.multiplied.Goals as goal

pub overflow_mul-result : goal.overflow_mul-result
overflow_mul-result c =
    factors_fit c.args.basic c.args.left c.args.count c.power_of_two.result c.requires.left c.requires.count c.ranges.count
    c.power_of_two.ensures (record { sfits = c.power_of_two.type_inv })

pub returns : goal.returns
returns c =
    multiplied_case c.args.basic c.args.left c.args.count c.power_of_two.result c.requires.left c.requires.count c.ranges.count
    c.power_of_two.ensures (record { sfits = c.power_of_two.type_inv })
