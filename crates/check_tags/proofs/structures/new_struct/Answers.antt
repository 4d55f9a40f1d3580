use Rattle.std.proofs.Common.{◌∙◌}
use Rattle.check_tags.proofs.TagLaws.{new_ok, new_err}
use Rattle.check_tags.proofs.structures.new_struct.Goals as goal

pub returns-in-Ok-clause-answer : goal.returns-in-Ok-clause-answer
returns-in-Ok-clause-answer c s =
    new_ok c.args.name.now c.args.has_braces c.args.place c.in_ok-id.id c.in_ok-tag.tag _ _ _ _ _
    (c.in_ok-tag.ensures ∙ c.as_slice.ensures) c.in_ok-id.ensures.id c.in_ok-id.ensures.added c.in_ok-ty.ensures c.in-Ok.ensures.answer s

pub returns-clause-answer : goal.returns-clause-answer
returns-clause-answer c s =
    new_err c.args.name.now c.args.has_braces c.args.place c.in_ok-id.id c.in_ok-tag.tag _ c.in-Err.e _ _
    (c.in_ok-tag.ensures ∙ c.as_slice.ensures) c.in_ok-id.ensures.id c.in_ok-id.ensures.added c.in_ok-ty.ensures c.in-Err.ensures.answer s
