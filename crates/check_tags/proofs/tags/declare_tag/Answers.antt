use Rattle.check_tags.proofs.TagLaws.{declared_refused}
use Rattle.check_tags.proofs.tags.declare_tag.Goals as goal

pub returns-in-Err-clause-answer : goal.returns-in-Err-clause-answer
returns-in-Err-clause-answer c s = declared_refused _ _ _ _ c.in-Err.e _ c.in_ok-entry.ensures c.in-Err.ensures.answer c.refusal.ensures s
