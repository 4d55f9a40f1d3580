-- The parts of an object that initial values are for, as places of a text (ISO/IEC 9899:1990, 6.3.2.1, 6.3.2.3): members
-- and elements one after the other; by its offset in bytes where a structure on the way isn't known.
use Rattle.std.specs.Prelude.{ℕ, nat_le, false, List, [], ◌∷◌, Option, Some, None, slice_get, if◌then◌else◌}
use Rattle.model_types.specs.declared.numbers.BinOp.TheVariants.{Add}
use Rattle.model_types.specs.declared.types.StructId.{StructId}
use Rattle.model_types.specs.Types.{CType, Form, Array, Struct, form_of_type}
use Rattle.model_types.specs.Structures.{Member, members_of}
use Rattle.model_core.specs.Types89.{Type89, Based, Pointer, Char}
use Rattle.model_core.specs.Program89 as text
use Rattle.c_model.specs.WrittenType.{written_type}
use Rattle.c_model.specs.Renamed.{Naming}
use Rattle.model_lowering.specs.Steps.{Setting}

-- a rank or a number of bytes
abbrev pub count : ℕ → text.Expr
count n = text.Constant n (if nat_le n 2147483647 then text.Plain else text.L)

-- the name of a member
abbrev pub member_name : Naming → Form → (rank : ℕ) → List ℕ
member_name n (Struct id) rank = n.member id rank
member_name n form rank = []

abbrev pub member_of_rank : Option (List Member) → (rank : ℕ) → Option Member
member_of_rank None rank = None
member_of_rank (Some members) rank = slice_get members rank

-- a part, with its type
pub record Reached : Type 0 where
  pub place : text.Expr
  pub type : CType

abbrev pub member_reached : Setting → (place : text.Expr) → StructId → (rank : ℕ) → Option Member → Option Reached
member_reached s place id rank None = None
member_reached s place id rank (Some m) = Some (record { place = text.Dot place (s.naming.member id rank); type = m.ty })

abbrev pub part_of : Setting → (place : text.Expr) → Form → (rank : ℕ) → Option Reached
part_of s place (Array element length) rank = Some (record { place = text.Index place (count rank); type = element })
part_of s place (Struct id) rank = member_reached s place id rank (member_of_rank (members_of s.structs id) rank)
part_of s place form rank = None

abbrev pub behind : Option Reached → (Reached → Option text.Expr) → Option text.Expr
behind None inner = None
behind (Some part) inner = inner part

-- the part that ranks lead to, as far as structures are known
abbrev pub part_along : Setting → (place : text.Expr) → CType → (path : List ℕ) → Option text.Expr
part_along s place type [] = Some place
part_along s place type (rank ∷ ranks) = behind (part_of s place (form_of_type type) rank) (λ part. part_along s part.place part.type ranks)

abbrev pub char_pointer : Type89
char_pointer = Pointer false (Based false Char)

abbrev pub at_offset : Setting → (place : text.Expr) → (offset : ℕ) → CType → text.Expr
at_offset s place offset type =
    text.Unary text.Deref (text.Cast (Pointer false (written_type s.naming.structure type))
    (text.Binary Add (text.Cast char_pointer (text.Unary text.AddressOf place)) (count offset)))

abbrev pub or_at_offset : Option text.Expr → text.Expr → text.Expr
or_at_offset None other = other
or_at_offset (Some place) other = place

-- a part of an object of a type, with the part's offset and type
abbrev pub part_place : Setting → (object : text.Expr) → CType → (path : List ℕ) → (offset : ℕ) → (part : CType) → text.Expr
part_place s object type path offset part = or_at_offset (part_along s object type path) (at_offset s object offset part)
