-- How many scalars an object has, and how many values an object of automatic storage may be initialised with.
use Rattle.std.specs.Prelude.{ℕ, zero, suc, ◌+◌, ◌*◌, nat_lt, Bool, if◌then◌else◌, List, [], ◌∷◌, Option, Some, None}
use Rattle.model_types.specs.declared.types.StructId.{StructId}
use Rattle.model_types.specs.Types.{CType, typed, Form, Array, Struct}
use Rattle.model_types.specs.Structures.{Member, Structure, members_of}
use Rattle.model_types.specs.Layout.{complete_count}
use Rattle.model_core.specs.TypedParts.{is_scalar}

abbrev mutual
  -- those of structures are given
  pub scalars : (given : StructId → ℕ) → CType → ℕ
  scalars given (typed form quals) = form_scalars given form

  pub form_scalars : (given : StructId → ℕ) → Form → ℕ
  form_scalars given (Array type (Some count)) = count * scalars given type
  form_scalars given (Array type None) = 0
  form_scalars given (Struct id) = given id
  form_scalars given form = if is_scalar form then 1 else 0

abbrev pub in_members : (of : CType → ℕ) → List Member → ℕ
in_members of [] = 0
in_members of (m ∷ ms) = of m.ty + in_members of ms

abbrev pub in_members_if_any : (of : CType → ℕ) → Option (List Member) → ℕ
in_members_if_any of None = 0
in_members_if_any of (Some members) = in_members of members

-- in structures that lie in one another at most this deep
abbrev pub struct_scalars : (depth : ℕ) → List Structure → StructId → ℕ
struct_scalars zero structs id = 0
struct_scalars (suc depth) structs id = in_members_if_any (scalars (struct_scalars depth structs)) (members_of structs id)

-- those of an object of a type
abbrev pub scalar_count : List Structure → CType → ℕ
scalar_count structs = scalars (struct_scalars (complete_count structs) structs)

abbrev pub most_scalars : ℕ
most_scalars = 65536

abbrev pub has_too_many : List Structure → CType → Bool
has_too_many structs type = nat_lt most_scalars (scalar_count structs type)
