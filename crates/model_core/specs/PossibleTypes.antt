-- Types that there are (ISO/IEC 9899:2024, 6.5.3.3, 6.7.3.2, 6.7.7.3, 6.7.7.4): each structure is one of the
-- table; an element is complete; a length is positive, and what has a size isn't too large; a function
-- gives no array and no function, and its parameters have become pointers.
use Rattle.std.specs.Prelude.{ℕ, zero, suc, nat_lt, Bool, true, false, ◌&&◌, ◌||◌, not, List, [], ◌∷◌, length, Option, Some, None, is_some}
use Rattle.std.specs.List.{list_all}
use Rattle.model_types.specs.Types.{CType, typed, Form, Void, Integer, Enum, Pointer, Array, Struct, Function, Types, no_types, more_types, form_of_type}
use Rattle.model_types.specs.declared.types.StructId.{StructId}
use Rattle.model_types.specs.Structures.{Member, Structure, members_of}
use Rattle.model_types.specs.Layout.{complete_count, is_complete, size_of}
use Rattle.model_core.specs.CoreTypes.{plain, is_void}
use Rattle.model_core.specs.TypedParts.{is_array, is_function}

-- a complete type whose size is within the limit
abbrev pub is_sized : List Structure → CType → Bool
is_sized structs type = is_some (size_of structs type)

-- an array of this length
abbrev pub length_fits : List Structure → (element : CType) → Option ℕ → Bool
length_fits structs element None = true
length_fits structs element (Some count) = nat_lt 0 count && is_sized structs (plain (Array element (Some count)))

-- neither an array nor a function
abbrev pub is_value_form : Form → Bool
is_value_form form = not (is_array form) && not (is_function form)

abbrev pub has_types : Types → Bool
has_types no_types = false
has_types (more_types type types) = true

abbrev mutual
  pub is_possible : List Structure → CType → Bool
  is_possible structs (typed form quals) = is_possible_form structs form

  pub is_possible_form : List Structure → Form → Bool
  is_possible_form structs Void = true
  is_possible_form structs (Integer basic) = true
  is_possible_form structs (Enum basic order) = true
  is_possible_form structs (Pointer type) = is_possible structs type
  is_possible_form structs (Array type count) = is_possible structs type && is_complete structs type && length_fits structs type count
  is_possible_form structs (Struct id) = nat_lt id.0 (length structs)
  is_possible_form structs (Function result parameters is_variadic) =
      is_possible structs result && is_value_form (form_of_type result) && are_possible structs parameters && (has_types parameters || not is_variadic)

  -- parameters: none has type void, since `(void)` has none
  pub are_possible : List Structure → Types → Bool
  are_possible structs no_types = true
  are_possible structs (more_types type types) =
      is_possible structs type && is_value_form (form_of_type type) && not (is_void type) && are_possible structs types

abbrev mutual
  -- a structure that an object of the type holds, or that is an element of an array behind a pointer, is one
  -- of these; another that is pointed to needn't be
  pub is_whole : (StructId → Bool) → CType → Bool
  is_whole these (typed form quals) = is_whole_form these form

  pub is_whole_form : (StructId → Bool) → Form → Bool
  is_whole_form these (Struct id) = these id
  is_whole_form these (Array type count) = is_whole these type
  is_whole_form these (Pointer type) = is_named these type
  is_whole_form these (Function result parameters is_variadic) = is_named these result && are_named these parameters
  is_whole_form these form = true

  pub is_named : (StructId → Bool) → CType → Bool
  is_named these (typed form quals) = is_named_form these form

  pub is_named_form : (StructId → Bool) → Form → Bool
  is_named_form these (Struct id) = true
  is_named_form these (Array type count) = is_whole these type
  is_named_form these (Pointer type) = is_named these type
  is_named_form these (Function result parameters is_variadic) = is_named these result && are_named these parameters
  is_named_form these form = true

  pub are_named : (StructId → Bool) → Types → Bool
  are_named these no_types = true
  are_named these (more_types type types) = is_named these type && are_named these types

abbrev pub members_whole : (StructId → Bool) → Option (List Member) → Bool
members_whole these None = false
members_whole these (Some members) = list_all (λ m. is_whole these m.ty) members

-- structures can stand in an order in which each is complete where it has to be (6.7.7.3)
abbrev pub has_order : (depth : ℕ) → List Structure → StructId → Bool
has_order zero structs id = false
has_order (suc depth) structs id = members_whole (has_order depth structs) (members_of structs id)

abbrev pub member_fits : List Structure → Member → Bool
member_fits structs m = is_possible structs m.ty && is_complete structs m.ty

-- a structure that has its braces has a member at least, and none of an incomplete type; it doesn't hold
-- itself and isn't too large
abbrev pub members_fit : List Structure → (rank : ℕ) → Option (List Member) → Bool
members_fit structs rank None = true
members_fit structs rank (Some []) = false
members_fit structs rank (Some (m ∷ ms)) =
    list_all (member_fits structs) (m ∷ ms) && is_sized structs (plain (Struct (record { 0 = rank })))
    && has_order (complete_count structs) structs (record { 0 = rank })

-- those from a rank on
abbrev pub structures_fit : List Structure → (rank : ℕ) → List Structure → Bool
structures_fit structs rank [] = true
structures_fit structs rank (s ∷ ss) = members_fit structs rank s.members && structures_fit structs (suc rank) ss

-- the structures of a unit
abbrev pub are_structures : List Structure → Bool
are_structures structs = structures_fit structs 0 structs
