use Rattle.std.proofs.Common.{◌≡◌, ◌+◌, ◌*◌, drop}
use Rattle.std.specs.List.{list_any}
use Rattle.model_types.specs.Structures.{Member}
use Rattle.model_core.specs.MemberTypes.{holds_const, struct_holds_const}
use Rattle.check_operators.proofs.constness.+structures.Given as goal

abbrev pub invariant-members_are_const-loop-member : goal.invariant-members_are_const-loop-member
invariant-members_are_const-loop-member l =
    list_any (λ (e : Member). holds_const (struct_holds_const l.depth l.structs) e.ty) (drop l.member-index l.members)
    ≡ list_any (λ (e : Member). holds_const (struct_holds_const l.depth l.structs) e.ty) l.members

abbrev pub decreases-structure_is_const : goal.decreases-structure_is_const
decreases-structure_is_const l = 3 * l.depth

abbrev pub decreases-type_is_const : goal.decreases-type_is_const
decreases-type_is_const l = 3 * l.depth + 1

abbrev pub decreases-members_are_const : goal.decreases-members_are_const
decreases-members_are_const l = 3 * l.depth + 2
