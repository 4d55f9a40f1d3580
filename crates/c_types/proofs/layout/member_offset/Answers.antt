use Rattle.c_types.proofs.Offsets.{offset_case}
use Rattle.c_types.proofs.layout.member_offset.Goals as goal

pub returns-in-Some-members_of_type : goal.returns-in-Some-members_of_type
returns-in-Some-members_of_type c =
    offset_case c.args.structs.now c.args.t.now c.args.member c.in-Some.field-0 c.in-Some-members_of_type.members.now c.offset_among.result c.in-Some.ensures
    c.in-Some-members_of_type.ensures c.offset_among.ensures
