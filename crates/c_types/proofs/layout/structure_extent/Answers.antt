use Rattle.model_types.specs.Layout as m
use Rattle.c_types.proofs.Rows.{whole_row}
use Rattle.c_types.proofs.layout.structure_extent.Goals as goal

pub returns-in-Some-clause-whole : goal.returns-in-Some-clause-whole
returns-in-Some-clause-whole c =
    whole_row (m.member_layouts (m.layout_of c.args.structs.now) c.args.members.now) c.in-Some.row c.padded.result c.in-Some.ensures.row c.padded.ensures
