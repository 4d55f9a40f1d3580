use Rattle.std.proofs.Common.{◌∙◌, sym, None}
use Rattle.model_checking.specs.Structures as m
use Rattle.check_tags.proofs.TurnLaws.{turns_same}
use Rattle.check_tags.proofs.TagLaws.{tag_is_new}
use Rattle.check_tags.proofs.structures.struct_tag.Goals as goal

pub returns-in-None-clause-answer : goal.returns-in-None-clause-answer
returns-in-None-clause-answer c =
    turns_same (m.struct_tag c.args.is_lone c.args.name.now c.args.place) (m.struct_by None c.args.name.now c.args.place) c.args.scopes.now c.new_struct_type.result c.new_struct_type.new.scopes
    (tag_is_new c.args.is_lone c.args.name.now c.args.place c.args.scopes.now (sym c.in_ok-ty.ensures.ty ∙ c.in-None.is)) c.new_struct_type.ensures.answer
