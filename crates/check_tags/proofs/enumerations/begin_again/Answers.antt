use Rattle.check_tags.proofs.EnumLaws.{again_ok, again_err}
use Rattle.check_tags.proofs.enumerations.begin_again.Goals as goal

pub returns-in-Ok-clause-answer : goal.returns-in-Ok-clause-answer
returns-in-Ok-clause-answer c s = again_ok c.args.name.now c.args.ty.now _ c.is_struct.result _ _ c.is_struct.ensures c.if-is_struct.false c.in-Ok.ensures.answer s

pub returns-in-Err-clause-answer : goal.returns-in-Err-clause-answer
returns-in-Err-clause-answer c s = again_err c.args.name.now c.args.ty.now c.is_struct.result c.in-Err.e _ c.is_struct.ensures c.if-is_struct.false c.in-Err.ensures.answer s
