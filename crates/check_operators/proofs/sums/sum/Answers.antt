use Rattle.check_operators.specs.Seen.{seen}
use Rattle.check_operators.proofs.SumLaws.{tested_sum_takes}
use Rattle.check_operators.proofs.sums.sum.Goals as goal

pub added-requires-clause-pointers : goal.added-requires-clause-pointers
added-requires-clause-pointers c =
    tested_sum_takes c.args.structs.now c.args.op c.args.mark.at (seen c.args.both.left) (seen c.args.both.right) c.ty.result.now c.ty-2.result.now
    c.may_be_added.result _ c.ty.ensures c.ty-2.ensures c.may_be_added.ensures c.if-not-may_be_added.false c.in-Ok-None.ensures c.in-Ok-None.field-0-is c.requires
