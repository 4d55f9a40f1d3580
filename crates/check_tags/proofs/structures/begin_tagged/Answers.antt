use Rattle.std.proofs.Common.{◌∙◌, sym, Some, true}
use Rattle.model_checking.specs.Structures as m
use Rattle.check_tags.proofs.TurnLaws.{turns_same}
use Rattle.check_tags.proofs.TagLaws.{begun_is_new}
use Rattle.check_tags.proofs.structures.begin_tagged.Goals as goal

pub returns-in-None-clause-answer : goal.returns-in-None-clause-answer
returns-in-None-clause-answer c =
    turns_same (m.begun (Some c.args.name.now) c.args.place) (m.new_struct c.args.name.now true c.args.place) c.args.scopes.now c.new_struct.result c.new_struct.new.scopes
    (begun_is_new c.args.name.now c.args.place c.args.scopes.now (sym c.in_ok-ty.ensures.ty ∙ c.in-None.is)) c.new_struct.ensures.answer
