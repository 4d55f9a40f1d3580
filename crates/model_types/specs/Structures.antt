-- The structures of a unit (ISO/IEC 9899:2024, 6.7.3.2 to 6.7.3.4).
use Rattle.std.specs.Prelude.{ℕ, zero, suc, Bool, true, ◌&&◌, nat_lt, List, [], ◌∷◌, length, Option, Some, None, slice_get}
use Rattle.std.specs.List.{list_all}
use Rattle.cake_base.specs.declared.places.Place.{Place}
use Rattle.model_types.specs.declared.types.StructId.{StructId}
use Rattle.model_types.specs.Types.{CType, typed, Form, Void, Integer, Enum, Pointer, Array, Struct, Function, Types, no_types, more_types}

-- a member of a structure, with the place of its name
pub record Member : Type 0 where
  pub name : List ℕ
  pub ty : CType
  pub place : Place

-- a structure type: its tag or none, whether it stands at file scope, the place of its word
-- `struct`, and its members, or none while it is incomplete
pub record Structure : Type 0 where
  pub tag : Option (List ℕ)
  pub outer : Bool
  pub place : Place
  pub members : Option (List Member)

-- the members of a structure that is there
abbrev pub members_in : Option Structure → Option (List Member)
members_in None = None
members_in (Some s) = s.members

-- the members of a structure of a table, or none where it is incomplete or not there
abbrev pub members_of : List Structure → StructId → Option (List Member)
members_of structs s = members_in (slice_get structs s.0)

-- the table with members for its structure of a rank
abbrev pub completed : List Structure → ℕ → List Member → List Structure
completed [] k ms = []
completed (s ∷ ss) zero ms = record s { members = Some ms } ∷ ss
completed (s ∷ ss) (suc k) ms = s ∷ completed ss k ms

abbrev mutual
  -- each structure that the type names is one of the first n
  pub names_below : ℕ → CType → Bool
  names_below n (typed f q) = form_names_below n f

  pub form_names_below : ℕ → Form → Bool
  form_names_below n Void = true
  form_names_below n (Integer b) = true
  form_names_below n (Enum b e) = true
  form_names_below n (Pointer t) = names_below n t
  form_names_below n (Array t k) = names_below n t
  form_names_below n (Struct s) = nat_lt s.0 n
  form_names_below n (Function r ps v) = names_below n r && types_names_below n ps

  pub types_names_below : ℕ → Types → Bool
  types_names_below n no_types = true
  types_names_below n (more_types t ts) = names_below n t && types_names_below n ts

-- the members name structures of the first n alone
abbrev pub members_below : ℕ → Option (List Member) → Bool
members_below n None = true
members_below n (Some ms) = list_all (λ m. names_below n m.ty) ms

-- each structure that a type names is one of the table
abbrev pub knows : List Structure → CType → Bool
knows structs t = names_below (length structs) t

-- each structure that a member of the table names is one of the table
abbrev pub is_closed : List Structure → Bool
is_closed structs = list_all (λ s. members_below (length structs) s.members) structs
