use Rattle.check_tags.proofs.TagLaws.{new_type_ok, new_type_err}
use Rattle.check_tags.proofs.structures.new_struct_type.Goals as goal

pub returns-in_ok-plain-in-Ok-clause-answer : goal.returns-in_ok-plain-in-Ok-clause-answer
returns-in_ok-plain-in-Ok-clause-answer c s = new_type_ok c.args.name.now c.args.place c.in-Ok.id _ _ _ c.in_ok-plain-in-Ok.ensures c.in-Ok.ensures.answer s

pub returns-in-Err-clause-answer : goal.returns-in-Err-clause-answer
returns-in-Err-clause-answer c s = new_type_err c.args.name.now c.args.place c.in-Err.e _ c.in-Err.ensures.answer s
