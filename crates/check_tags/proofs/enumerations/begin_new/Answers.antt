use Rattle.check_tags.proofs.EnumLaws.{new_ok, new_err}
use Rattle.check_tags.proofs.enumerations.begin_new.Goals as goal

pub returns-in-Ok-clause-answer : goal.returns-in-Ok-clause-answer
returns-in-Ok-clause-answer c s = new_ok c.args.name.now _ _ c.args.fixed c.args.place _ _ _ c.in_ok-ty.ensures c.is_some.ensures c.in-Ok.ensures.answer s

pub returns-clause-answer : goal.returns-clause-answer
returns-clause-answer c s = new_err c.args.name.now _ c.args.fixed c.args.place c.in-Err.e _ c.in_ok-ty.ensures c.in-Err.ensures.answer s
