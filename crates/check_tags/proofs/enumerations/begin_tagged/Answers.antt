use Rattle.std.proofs.Common.{◌∙◌, sym, Some, None}
use Rattle.model_checking.specs.Enumerations as m
use Rattle.check_tags.specs.Enumerated.{as_enumeration, begun_as_typed}
use Rattle.check_tags.proofs.TurnLaws.{turns_same}
use Rattle.check_tags.proofs.EnumLaws.{begun_again, begun_new}
use Rattle.check_tags.proofs.enumerations.begin_tagged.Goals as goal

pub returns-in-Some-clause-answer : goal.returns-in-Some-clause-answer
returns-in-Some-clause-answer c =
    turns_same (m.begun (Some c.args.name.now) c.args.fixed c.args.place) (begun_as_typed c.in-Some.ty c.args.name.now) c.args.scopes.now
    (as_enumeration c.begin_again.result) c.begin_again.new.scopes
    (begun_again c.args.name.now c.in-Some.ty c.args.fixed c.args.place c.args.scopes.now (sym c.in_ok-ty.ensures.ty ∙ c.in-Some.is)) c.begin_again.ensures.answer

pub returns-in-None-clause-answer : goal.returns-in-None-clause-answer
returns-in-None-clause-answer c =
    turns_same (m.begun (Some c.args.name.now) c.args.fixed c.args.place) (m.begun_by None c.args.name.now c.args.fixed c.args.place) c.args.scopes.now
    (as_enumeration c.begin_new.result) c.begin_new.new.scopes
    (begun_new c.args.name.now c.args.fixed c.args.place c.args.scopes.now (sym c.in_ok-ty.ensures.ty ∙ c.in-None.is)) c.begin_new.ensures.answer
