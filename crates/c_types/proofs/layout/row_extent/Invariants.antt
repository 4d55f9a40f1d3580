use Rattle.c_types.proofs.Placed.{IsLaid}
use Rattle.c_types.proofs.layout.row_extent.Given as goal

abbrev pub invariant-loop-member : goal.invariant-loop-member
invariant-loop-member l = IsLaid l.structs l.members l.member-index l.at l.row l.offsets
