-- The parts of an object that initial values are for (ISO/IEC 9899:2024, 6.7.11): elements and members, by
-- the ranks that lead to them. Values stand in the order of their parts; one for a whole structure may
-- stand before values for parts of it, and no two are for one part.
use Rattle.std.specs.Prelude.{ℕ, ◌+◌, ◌*◌, nat_eq, nat_lt, Bool, true, false, ◌&&◌, if◌then◌else◌, List, [], ◌∷◌, Option, Some, None}
use Rattle.std.specs.Option.{option_map}
use Rattle.model_types.specs.Types.{CType, Form, Array, Struct, form_of_type}
use Rattle.model_types.specs.Structures.{Member, Structure, members_of}
use Rattle.model_types.specs.Layout.{member_offset}
use Rattle.model_core.specs.CoreTypes.{plain, size_in}
use Rattle.model_core.specs.SameTypes.{same_value_type}
use Rattle.model_core.specs.MemberTypes.{member_in}
use Rattle.model_core.specs.Core as unit

-- a part of an object: its offset in bytes, and its type
pub record Part : Type 0 where
  pub offset : ℕ
  pub type : CType

abbrev pub member_part : Option ℕ → Option Member → Option Part
member_part (Some offset) (Some m) = Some (record { offset = offset; type = m.ty })
member_part offset m = None

-- the element or member of a rank
abbrev pub part_of_form : List Structure → Form → (rank : ℕ) → Option Part
part_of_form structs (Array type (Some count)) rank =
    if nat_lt rank count then Some (record { offset = rank * size_in structs type; type = type }) else None
part_of_form structs (Struct id) rank =
    member_part (member_offset structs (plain (Struct id)) rank) (member_in rank (members_of structs id))
part_of_form structs form rank = None

-- a part of a part
abbrev pub part_in : Option Part → (CType → Option Part) → Option Part
part_in None inner = None
part_in (Some outer) inner = option_map (λ p. record { offset = outer.offset + p.offset; type = p.type }) (inner outer.type)

-- the part that ranks lead to; none lead to the whole
abbrev pub part_at : List Structure → CType → (path : List ℕ) → Option Part
part_at structs type [] = Some (record { offset = 0; type = type })
part_at structs type (rank ∷ ranks) = part_in (part_of_form structs (form_of_type type) rank) (λ inner. part_at structs inner ranks)

-- one part comes before another: where the ways to them part it has the lower rank; a whole comes before
-- its parts
abbrev pub comes_before : (path other : List ℕ) → Bool
comes_before [] [] = false
comes_before [] (rank ∷ ranks) = true
comes_before (rank ∷ ranks) [] = false
comes_before (r ∷ rs) (q ∷ qs) = if nat_eq r q then comes_before rs qs else nat_lt r q

abbrev pub is_first : (path : List ℕ) → unit.Initials → Bool
is_first path unit.no_initials = true
is_first path (unit.more_initials other offset type value others) = comes_before path other

-- the part is there, at this offset, and a value of the type is one for it
abbrev pub is_part : (offset : ℕ) → CType → Option Part → Bool
is_part offset type None = false
is_part offset type (Some part) = nat_eq offset part.offset && same_value_type type part.type

-- the values are for parts of an object of the type, in their order
abbrev pub parts_fit : List Structure → (object : CType) → unit.Initials → Bool
parts_fit structs object unit.no_initials = true
parts_fit structs object (unit.more_initials path offset type value others) =
    is_part offset type (part_at structs object path) && is_first path others && parts_fit structs object others
