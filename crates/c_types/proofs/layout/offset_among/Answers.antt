use Rattle.std.proofs.Common.{◌∙◌, ap, sym}
use Rattle.std.specs.Option.{option_and_then}
use Rattle.model_types.specs.Layout as m
use Rattle.c_types.proofs.layout.offset_among.Goals as goal

pub returns-in-Some : goal.returns-in-Some
returns-in-Some c = λ ls h small.
    sym (c.in-Some.ensures ls (ap (option_and_then (m.member_layouts (m.layout_of c.args.structs.now))) (sym c.requires) ∙ h) small)

pub returns-in-None : goal.returns-in-None
returns-in-None c = λ ls h small.
    c.offset_in_row.ensures ls (ap (m.member_layouts (m.layout_of c.args.structs.now)) c.as_slice.ensures ∙ h) small
