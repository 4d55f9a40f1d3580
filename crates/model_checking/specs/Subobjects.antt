-- The scalars and structures of an object in the order of their offsets, a structure before its members (ISO/IEC
-- 9899:2024, 6.2.5, 6.2.6.1).
use Rattle.std.specs.Prelude.{ℕ, zero, suc, ◌+◌, ◌*◌, if◌then◌else◌, List, [], ◌∷◌, ◌++◌, Option, Some, None, unwrap_or}
use Rattle.model_types.specs.declared.types.StructId.{StructId}
use Rattle.model_types.specs.Types.{CType, typed, Form, Array, Struct, quals_of_type}
use Rattle.model_types.specs.Structures.{Member, Structure, members_of}
use Rattle.model_types.specs.Layout.{member_offset, complete_count}
use Rattle.model_core.specs.CoreTypes.{plain, size_in}
use Rattle.model_core.specs.MemberTypes.{member_type}
use Rattle.model_core.specs.TypedParts.{is_scalar}

-- where a subobject lies: the ranks that lead to it, and its offset in bytes
pub record Spot : Type 0 where
  pub path : List ℕ
  pub offset : ℕ

pub record Subobject : Type 0 where
  pub spot : Spot
  pub type : CType

-- the element or member of a rank
abbrev pub inner : Spot → (rank : ℕ) → (offset : ℕ) → Spot
inner spot rank offset = record { path = spot.path ++ rank ∷ []; offset = spot.offset + offset }

abbrev pub of_elements : (of : (rank : ℕ) → List Subobject) → (rank : ℕ) → (count : ℕ) → List Subobject
of_elements of rank zero = []
of_elements of rank (suc count) = of rank ++ of_elements of (rank + 1) count

abbrev pub of_members : (of : (rank : ℕ) → CType → List Subobject) → (rank : ℕ) → List Member → List Subobject
of_members of rank [] = []
of_members of rank (m ∷ ms) = of rank m.ty ++ of_members of (rank + 1) ms

abbrev pub of_members_if_any : (of : (rank : ℕ) → CType → List Subobject) → Option (List Member) → List Subobject
of_members_if_any of None = []
of_members_if_any of (Some members) = of_members of 0 members

abbrev mutual
  -- of an object of a type; those of the members of structures are given
  pub subobjects : List Structure → (given : CType → StructId → Spot → List Subobject) → CType → Spot → List Subobject
  subobjects structs given (typed form quals) spot = form_subobjects structs given (typed form quals) form spot

  pub form_subobjects : List Structure → (given : CType → StructId → Spot → List Subobject) → (whole : CType) → Form → Spot → List Subobject
  form_subobjects structs given whole (Array type None) spot = []
  form_subobjects structs given whole (Array type (Some count)) spot =
      of_elements (λ rank. subobjects structs given type (inner spot rank (rank * size_in structs type))) 0 count
  form_subobjects structs given whole (Struct id) spot = record { spot = spot; type = whole } ∷ given whole id spot
  form_subobjects structs given whole form spot = if is_scalar form then record { spot = spot; type = whole } ∷ [] else []

-- in structures that lie in one another at most this deep
abbrev pub member_subobjects : (depth : ℕ) → List Structure → (whole : CType) → StructId → Spot → List Subobject
member_subobjects zero structs whole id spot = []
member_subobjects (suc depth) structs whole id spot =
    of_members_if_any
    (λ rank type. subobjects structs (member_subobjects depth structs) (member_type (quals_of_type whole) type)
    (inner spot rank (unwrap_or (member_offset structs (plain (Struct id)) rank) 0)))
    (members_of structs id)

abbrev pub subobjects_of : List Structure → CType → List Subobject
subobjects_of structs object = subobjects structs (member_subobjects (complete_count structs) structs) object (record { path = []; offset = 0 })
