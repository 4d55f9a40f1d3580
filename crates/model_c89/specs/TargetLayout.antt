-- The names of a C89 program, and the layout of its types (ISO/IEC 9899:1990, 6.1.2, 6.5.2.1), in the LP64
-- profile.
use Rattle.std.specs.Prelude.{ℕ, zero, suc, ◌+◌, List, [], ◌∷◌, length, Option, Some, None, if◌then◌else◌}
use Rattle.std.specs.Option.{option_map, option_and_then, unwrap_or}
use Rattle.std.specs.Str.{bytes_eq}
use Rattle.model_types.specs.declared.numbers.Basic.{Basic}
use Rattle.model_types.specs.Layout.{Layout, scalar, basic_size, repeated, in_a_row, padded, before_others, offset_in}
use Rattle.model_types.specs.Shapes.{Shape, IntegerShape, PointerShape, StructShape}
use Rattle.model_core.specs.Types89.{Base, Struct, integer_of, Type89, Based, Pointer, Array, Function, int_type}
use Rattle.model_core.specs.Program89.{Declaration, Structure89, Tag, Members}

-- the members of the structure of a name, where it has them
abbrev pub members_in : List Structure89 → (name : List ℕ) → Option (List Declaration)
members_in [] name = None
members_in (Tag other ∷ structures) name = members_in structures name
members_in (Members other first others ∷ structures) name = if bytes_eq other name then Some (first ∷ others) else members_in structures name

abbrev pub base_layout : (List ℕ → Option Layout) → Base → Option Layout
base_layout of_tag (Struct name) = of_tag name
base_layout of_tag base = option_map (λ b. scalar (basic_size b)) (integer_of base)

-- a type, by the layout of the structure of each tag
abbrev pub type_layout : (List ℕ → Option Layout) → Type89 → Option Layout
type_layout of_tag (Based is_const base) = base_layout of_tag base
type_layout of_tag (Pointer is_const to) = Some (scalar 8)
type_layout of_tag (Array None of) = None
type_layout of_tag (Array (Some count) of) = option_map (repeated count) (type_layout of_tag of)
type_layout of_tag (Function result parameters is_variadic) = None

abbrev pub member_layouts : (Type89 → Option Layout) → List Declaration → Option (List Layout)
member_layouts of [] = Some []
member_layouts of (m ∷ ms) = before_others (of m.type) (member_layouts of ms)

abbrev pub layout_of_members : (Type89 → Option Layout) → Option (List Declaration) → Option Layout
layout_of_members of None = None
layout_of_members of (Some ms) = option_map (λ ls. padded (in_a_row ls)) (member_layouts of ms)

-- a structure, where structures lie in one another at most this deep
abbrev pub tag_layout : (depth : ℕ) → List Structure89 → (name : List ℕ) → Option Layout
tag_layout zero structures name = None
tag_layout (suc depth) structures name = layout_of_members (type_layout (tag_layout depth structures)) (members_in structures name)

-- a type; none where it is incomplete
abbrev pub layout_of : List Structure89 → Type89 → Option Layout
layout_of structures = type_layout (tag_layout (length structures) structures)

abbrev pub size_or : Option Layout → ℕ
size_or None = 0
size_or (Some layout) = layout.size

-- the size of a complete type
abbrev pub size_of : List Structure89 → Type89 → ℕ
size_of structures type = size_or (layout_of structures type)

-- the type and the rank of the member of a name
abbrev pub find_member : List Declaration → (name : List ℕ) → (rank : ℕ) → Option (Type89 × ℕ)
find_member [] name rank = None
find_member (m ∷ ms) name rank = if bytes_eq m.name name then Some (m.type, rank) else find_member ms name (rank + 1)

abbrev pub members_of : List Structure89 → Type89 → Option (List Declaration)
members_of structures (Based is_const (Struct name)) = members_in structures name
members_of structures type = None

abbrev pub found_type : Option (Type89 × ℕ) → Type89
found_type None = int_type
found_type (Some found) = found.0

abbrev pub found_rank : Option (Type89 × ℕ) → ℕ
found_rank None = 0
found_rank (Some found) = found.1

abbrev pub members_or_none : Option (List Declaration) → List Declaration
members_or_none None = []
members_or_none (Some members) = members

-- the member of a name in a structure type
abbrev pub member_of : List Structure89 → Type89 → (name : List ℕ) → Option (Type89 × ℕ)
member_of structures type name = find_member (members_or_none (members_of structures type)) name 0

abbrev pub offset_among : List Structure89 → List Declaration → (rank : ℕ) → ℕ
offset_among structures members rank = unwrap_or (option_and_then (λ ls. offset_in ls rank) (member_layouts (layout_of structures) members)) 0

-- the offset of the member of a rank
abbrev pub offset_of : List Structure89 → Type89 → (rank : ℕ) → ℕ
offset_of structures type rank = offset_among structures (members_or_none (members_of structures type)) rank

abbrev pub integer_or : Option Basic → Shape → Shape
integer_or None shape = shape
integer_or (Some basic) shape = IntegerShape basic

-- how an object of a type is loaded and stored
abbrev pub shape_of : List Structure89 → Type89 → Shape
shape_of structures (Based is_const base) = integer_or (integer_of base) (StructShape (size_of structures (Based is_const base)))
shape_of structures (Pointer is_const to) = PointerShape
shape_of structures type = StructShape (size_of structures type)
