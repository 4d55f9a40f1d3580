use Rattle.std.proofs.Common.{List, ◌∙◌, ap}
use Rattle.std.specs.Option.{option_map}
use Rattle.model_types.specs.Types as t
use Rattle.model_types.specs.Structures.{Member}
use Rattle.model_types.specs.Layout as m
use Rattle.c_types.specs.Extents as s
use Rattle.c_types.proofs.Offsets.{offset_none, offset_some, member_none, row_there}
use Rattle.c_types.proofs.layout.offset_in_row.Goals as goal

pub returns-then-at-members : goal.returns-then-at-members
returns-then-at-members c = λ ls h small. offset_none (m.layout_of c.args.structs.now) c.args.members.now ls c.args.at h c.if-at-members.true

pub returns-in-Some-type_extent : goal.returns-in-Some-type_extent
returns-in-Some-type_extent c = λ ls h small.
    offset_some (m.layout_of c.args.structs.now) c.args.members.now ls c.args.at c.index-members-at.result c.in-Some.row c.in-Some-type_extent.extent c.padded_size.result
    h small c.if-at-members.false c.index-members-at.is
    (c.in-Some.ensures.row ∙ ap (λ (xs : List Member). option_map (s.more_behind s.no_member) (m.member_layouts (m.layout_of c.args.structs.now) xs)) c.split_at.ensures.front)
    (c.in-Some-type_extent.ensures.extent ∙ ap (λ (ty : t.CType). option_map s.kept (m.layout_of c.args.structs.now ty)) c.ty.ensures)
    c.padded_size.ensures.value

pub returns-in-None-type_extent : goal.returns-in-None-type_extent
returns-in-None-type_extent c = λ ls h small.
    member_none (m.layout_of c.args.structs.now) c.args.members.now ls c.args.at c.index-members-at.result h c.if-at-members.false c.index-members-at.is
    (c.in-None-type_extent.ensures.extent ∙ ap (λ (ty : t.CType). option_map s.kept (m.layout_of c.args.structs.now ty)) c.ty.ensures)

pub returns-in-None : goal.returns-in-None
returns-in-None c = λ ls h small.
    absurd
    (row_there (m.layout_of c.args.structs.now) c.args.members.now ls c.args.at h
    (c.in-None.ensures.row ∙ ap (λ (xs : List Member). option_map (s.more_behind s.no_member) (m.member_layouts (m.layout_of c.args.structs.now) xs)) c.split_at.ensures.front))
