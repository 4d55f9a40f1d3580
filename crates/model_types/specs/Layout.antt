-- Complete types, sizes, alignments and offsets (ISO/IEC 9899:2024, 6.2.5, 6.2.8, 6.5.4.5,
-- 6.7.3.2), in the LP64 profile.
use Rattle.std.specs.Prelude.{ℕ, zero, suc, ◌+◌, ◌*◌, ◌/◌, max, Bool, true, false, if◌then◌else◌, nat_le, List, [], ◌∷◌, take, Option, Some, None, is_some, slice_get}
use Rattle.std.specs.Option.{option_map, option_and_then}
use Rattle.std.specs.List.{fold}
use Rattle.std.specs.Int.{next_multiple_of}
use Rattle.model_types.specs.declared.numbers.Basic.{Basic}
use Rattle.model_types.specs.declared.numbers.Basic.TheVariants.{Bool as bool}
use Rattle.model_types.specs.declared.types.StructId.{StructId}
use Rattle.model_types.specs.Operations.{width}
use Rattle.model_types.specs.Types.{CType, typed, Form, Void, Integer, Enum, Pointer, Array, Struct, Function, form_of_type}
use Rattle.model_types.specs.Structures.{Member, Structure, members_of}

abbrev mutual
  -- the type is complete in the table: not void, a function, a structure without members yet, an
  -- array without length or an array of these
  pub is_complete : List Structure → CType → Bool
  is_complete structs (typed f q) = is_complete_form structs f

  pub is_complete_form : List Structure → Form → Bool
  is_complete_form structs Void = false
  is_complete_form structs (Integer b) = true
  is_complete_form structs (Enum b e) = true
  is_complete_form structs (Pointer t) = true
  is_complete_form structs (Array t None) = false
  is_complete_form structs (Array t (Some n)) = is_complete structs t
  is_complete_form structs (Struct s) = is_some (members_of structs s)
  is_complete_form structs (Function r ps v) = false

-- how many bytes an object has, and what its address is a multiple of
pub record Layout : Type 0 where
  pub size : ℕ
  pub align : ℕ

-- a scalar of this size, which is its alignment too
abbrev pub scalar : ℕ → Layout
scalar n = record { size = n; align = n }

-- the size of an integer type: `bool` has a byte
abbrev pub basic_size : Basic → ℕ
basic_size bool = 1
basic_size t = width t / 8

-- an array of this many
abbrev pub repeated : ℕ → Layout → Layout
repeated n l = record { size = n * l.size; align = l.align }

-- no member yet
abbrev pub no_member : Layout
no_member = record { size = 0; align = 1 }

-- one more member, at the next multiple of its alignment
abbrev pub followed_by : Layout → Layout → Layout
followed_by before l = record { size = next_multiple_of before.size l.align + l.size; align = max before.align l.align }

-- members in a row
abbrev pub in_a_row : List Layout → Layout
in_a_row = fold followed_by no_member

-- a whole structure: it ends at a multiple of its alignment
abbrev pub padded : Layout → Layout
padded l = record { size = next_multiple_of l.size l.align; align = l.align }

-- a type, where the layout of each complete structure is given; none where it is incomplete
abbrev mutual
  pub type_layout : (StructId → Option Layout) → CType → Option Layout
  type_layout layouts (typed f q) = form_layout layouts f

  pub form_layout : (StructId → Option Layout) → Form → Option Layout
  form_layout layouts Void = None
  form_layout layouts (Integer b) = Some (scalar (basic_size b))
  form_layout layouts (Enum b e) = Some (scalar (basic_size b))
  form_layout layouts (Pointer t) = Some (scalar 8)
  form_layout layouts (Array t None) = None
  form_layout layouts (Array t (Some n)) = option_map (repeated n) (type_layout layouts t)
  form_layout layouts (Struct s) = layouts s
  form_layout layouts (Function r ps v) = None

-- an item before others, where there are both
abbrev pub before_others : Option Layout → Option (List Layout) → Option (List Layout)
before_others (Some l) (Some ls) = Some (l ∷ ls)
before_others None ls = None
before_others (Some l) None = None

-- all members, or none where one is incomplete
abbrev pub member_layouts : (CType → Option Layout) → List Member → Option (List Layout)
member_layouts of [] = Some []
member_layouts of (m ∷ ms) = before_others (of m.ty) (member_layouts of ms)

-- a structure by its members
abbrev pub layout_of_members : (CType → Option Layout) → Option (List Member) → Option Layout
layout_of_members of None = None
layout_of_members of (Some ms) = option_map (λ ls. padded (in_a_row ls)) (member_layouts of ms)

-- a structure, where structures lie in one another at most this deep
abbrev pub struct_layout : ℕ → (StructId → Option (List Member)) → StructId → Option Layout
struct_layout zero members s = None
struct_layout (suc depth) members s = layout_of_members (type_layout (struct_layout depth members)) (members s)

-- the number of complete structures, which no nesting passes
abbrev pub complete_count : List Structure → ℕ
complete_count [] = 0
complete_count (s ∷ ss) = if is_some s.members then 1 + complete_count ss else complete_count ss

-- a structure of the table
abbrev pub layout_in : List Structure → StructId → Option Layout
layout_in structs = struct_layout (complete_count structs) (members_of structs)

-- a type; none where it is incomplete
abbrev pub layout_of : List Structure → CType → Option Layout
layout_of structs = type_layout (layout_in structs)

-- the greatest size of an object
abbrev pub size_limit : ℕ
size_limit = 1073741824

-- a size that doesn't pass the limit
abbrev pub within_limit : ℕ → Option ℕ
within_limit n = if nat_le n size_limit then Some n else None

-- the size of a complete type, where it doesn't pass the limit
abbrev pub size_of : List Structure → CType → Option ℕ
size_of structs t = option_and_then (λ l. within_limit l.size) (layout_of structs t)

-- the alignment of a complete type
abbrev pub align_of : List Structure → CType → Option ℕ
align_of structs t = option_map (λ l. l.align) (layout_of structs t)

-- where the next member lies behind these
abbrev pub offset_behind : List Layout → Layout → ℕ
offset_behind before l = next_multiple_of (in_a_row before).size l.align

-- the offset of the member of a rank
abbrev pub offset_in : List Layout → ℕ → Option ℕ
offset_in ls k = option_map (offset_behind (take k ls)) (slice_get ls k)

-- the members of a type, where it is a complete structure
abbrev pub members_of_form : List Structure → Form → Option (List Member)
members_of_form structs (Struct s) = members_of structs s
members_of_form structs _ = None

-- the offset of the member of a rank, of members with these types
abbrev pub offset_of : (CType → Option Layout) → Option (List Member) → ℕ → Option ℕ
offset_of of None k = None
offset_of of (Some ms) k = option_and_then (λ ls. offset_in ls k) (member_layouts of ms)

-- the offset of a member, where the type is a structure whose size is within the limit
abbrev pub member_offset : List Structure → CType → ℕ → Option ℕ
member_offset structs t k =
    if is_some (size_of structs t) then offset_of (layout_of structs) (members_of_form structs (form_of_type t)) k else None
