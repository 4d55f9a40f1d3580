use Rattle.check_tags.proofs.TagLaws.{begun_ok, begun_err}
use Rattle.check_tags.proofs.structures.begin_known.Goals as goal

pub returns-in-Ok-clause-answer : goal.returns-in-Ok-clause-answer
returns-in-Ok-clause-answer c s = begun_ok c.args.name.now c.args.id _ _ _ _ c.in_ok-ty.ensures c.in-Ok.ensures.answer s

pub returns-clause-answer : goal.returns-clause-answer
returns-clause-answer c s = begun_err c.args.name.now c.args.id _ c.in-Err.e _ c.in_ok-ty.ensures c.in-Err.ensures.answer s
