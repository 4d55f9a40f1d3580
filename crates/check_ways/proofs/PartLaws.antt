-- The type of a part by the form of its whole.
use Rattle.std.proofs.Common.{◌≡◌, ap, refl, ℕ, List, Some, option_map}
use Rattle.model_types.specs.declared.types.Quals.{Quals}
use Rattle.model_types.specs.declared.types.StructId.{StructId}
use Rattle.model_core.specs.MemberTypes.{member_type, member_in}
use Rattle.model_types.specs.Types.{CType, typed, Void, Integer, Enum, Pointer, Array, Struct, Function, form_of_type, quals_of_type}
use Rattle.model_types.specs.Structures.{Member, Structure, members_of}
use Rattle.model_checking.specs.Ways.{part_type}
use Rattle.check_ways.specs.Seen.{part_of_form}

pub part_by_form : (structs : List Structure) (whole : CType) (rank : ℕ) → part_type structs whole rank ≡ part_of_form structs (quals_of_type whole) (form_of_type whole) rank
part_by_form structs (typed Void quals) rank = refl
part_by_form structs (typed (Integer b) quals) rank = refl
part_by_form structs (typed (Enum b o) quals) rank = refl
part_by_form structs (typed (Pointer type) quals) rank = refl
part_by_form structs (typed (Array type length) quals) rank = refl
part_by_form structs (typed (Struct id) quals) rank = refl
part_by_form structs (typed (Function r ps v) quals) rank = refl

-- of a structure that has a member of the rank
pub ranked : (structs : List Structure) (quals : Quals) (id : StructId) (rank : ℕ) (member : Member) → Some member ≡ member_in rank (members_of structs id) → Some (member_type quals member.ty) ≡ part_of_form structs quals (Struct id) rank
ranked structs quals id rank member e = ap (option_map (λ (m : Member). member_type quals m.ty)) e
