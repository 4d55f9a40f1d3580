use Rattle.std.proofs.Common.{List, Some, ◌∙◌, ap}
use Rattle.std.specs.Option.{option_map}
use Rattle.std.specs.List.{list_all}
use Rattle.model_types.specs.Structures as m
use Rattle.model_types.specs.Layout as l
use Rattle.c_types.specs.Extents as s
use Rattle.c_types.proofs.Laid.{completed_table, completed_view, whole_laid}
use Rattle.c_types.proofs.structs.Structs.complete.Goals as goal

pub invariant_of-self : goal.invariant_of-self
invariant_of-self c =
    completed_table c.self.inside.entries.items c.set_body.new.entries.items c.args.self.now c.args.id
    (record { members = c.take_room-offsets.new.self; extent = c.in-Some.extent; offsets = c.structure_extent.new.offsets }) c.as_slice.result.now
    c.self.view_is c.set_body.ensures c.self.invariant c.requires.there c.requires.incomplete
    (ap (λ (ms : List m.Member). list_all (λ (x : m.Member). m.knows c.args.self.now x.ty) ms) c.take_room-offsets.ensures ∙ c.requires.known)
    c.as_slice.ensures c.in-Some.ensures.whole c.in-Some.ensures.placed

pub returns-in-Some : goal.returns-in-Some
returns-in-Some c =
    completed_view c.self.inside.entries.items c.set_body.new.entries.items c.args.self.now c.args.id.0
    (record { members = c.take_room-offsets.new.self; extent = c.in-Some.extent; offsets = c.structure_extent.new.offsets }) c.self.view_is c.set_body.ensures
    ∙ ap (m.completed c.args.self.now c.args.id.0) c.take_room-offsets.ensures

pub returns-in_default : goal.returns-in_default
returns-in_default c =
    absurd
    (whole_laid c.self.inside.entries.items c.args.self.now c.self.view_is c.self.invariant c.args.members c.requires.complete
    (c.in_default.ensures.whole
    ∙ ap (λ (xs : List m.Member). option_map s.kept (l.layout_of_members (l.layout_of c.args.self.now) (Some xs))) (c.as_slice.ensures ∙ c.take_room-offsets.ensures)))
