use Rattle.std.proofs.Common.{◌≡◌, drop}
use Rattle.c_tree.specs.SyntaxViews.{member_declarations_of}
use Rattle.model_checking.specs.Structures as m
use Rattle.check_tags.proofs.structures.declares_member.Given as goal

abbrev pub invariant-loop-member : goal.invariant-loop-member
invariant-loop-member l = m.declares_member (member_declarations_of (drop l.member-index l.members)) ≡ m.declares_member (member_declarations_of l.members)
