use Rattle.c_types.proofs.Wide.{quotient_case}
use Rattle.c_types.proofs.operations.quotient.Goals as goal

pub returns-else-right-eq0-clause-value : goal.returns-else-right-eq0-clause-value
returns-else-right-eq0-clause-value c =
    quotient_case c.args.basic c.args.left c.args.right c.divided.result c.requires.left c.requires.right c.if-right-eq0.false
    c.divided.ensures (record { sfits = c.divided.type_inv }) c.within.ensures.value
