-- Constants of the two types of 64 bits are operated on in one of them.
use Rattle.std.proofs.Common.{◌∙◌}
use Rattle.pp_conditions.proofs.PartLaws.{back, result_is_fitting, both_is}
use Rattle.pp_conditions.proofs.operators.both.Goals as goal

pub new-requires : goal.new-requires
new-requires c =
    result_is_fitting c.args.op c.is_unsigned-3.result c.is_unsigned-4.result c.typed.result c.typed-2.result c.typed.ensures.basic c.typed-2.ensures.basic
    c.operated-value.result c.operated-value.ensures.fits c.result_unsigned-unsigned.result (cc)

pub returns : goal.returns
returns c =
    c.new.ensures
    ∙ both_is c.args.op c.args.l.now c.args.r.now c.typed.result c.typed-2.result c.args.left c.args.right c.requires.left c.requires.right
    (c.typed.ensures.value ∙ back c.args.l.now.unsigned c.args.left c.requires.left_fits) (c.typed-2.ensures.value ∙ back c.args.r.now.unsigned c.args.right c.requires.right_fits)
    (cc) (cc) c.result_unsigned-unsigned.result (cc) c.operated-value.result c.operated-value.ensures.value
