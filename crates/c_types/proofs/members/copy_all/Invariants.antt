use Rattle.std.proofs.Common.{◌≡◌, take}
use Rattle.c_types.proofs.members.copy_all.Given as goal

abbrev pub invariant-loop-member : goal.invariant-loop-member
invariant-loop-member l = l.made ≡ take l.member-index l.members
