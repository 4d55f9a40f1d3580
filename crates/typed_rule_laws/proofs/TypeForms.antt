-- Types: each is the same as itself, and what becomes of one without its qualifiers.
use Rattle.std.proofs.Common.{◌≡◌, ap, refl, ℕ, nat_eq, nat_lt, Bool, true, false, ◌&&◌, Option, Some, None, is_some, option_map, List, arith}
use Rattle.std.specs.Option.{option_and_then}
use Rattle.std.proofs.lemmas.Bool.{and_parts}
use Rattle.model_types.specs.declared.numbers.Basic.{Basic}
use Rattle.model_types.specs.declared.numbers.Basic.TheVariants as basic
use Rattle.model_types.specs.declared.types.StructId.{StructId}
use Rattle.model_types.specs.declared.types.Quals.{Quals}
use Rattle.model_types.specs.Types.{CType, typed, Form, Void, Integer, Enum, Pointer, Array, Struct, Function, Types, no_types, more_types, form_of_type}
use Rattle.model_types.specs.Structures.{Structure}
use Rattle.model_types.specs.Layout.{Layout, repeated, type_layout, layout_in, is_complete, within_limit}
use Rattle.model_types.specs.Compatible.{same_basic, same_bool, same_ownership, same_quals}
use Rattle.model_core.specs.CoreTypes.{unqualified, element}
use Rattle.model_core.specs.SameTypes.{same_type, same_form, same_types, same_length}
use Rattle.model_core.specs.TypedParts.{is_array}
use Rattle.model_core.specs.PossibleTypes.{is_possible, length_fits, is_value_form}

-- ---- each type is the same as itself

pub basic_self : (b : Basic) → same_basic b b ≡ true
basic_self basic.Bool = refl
basic_self basic.Char = refl
basic_self basic.SignedChar = refl
basic_self basic.UnsignedChar = refl
basic_self basic.Short = refl
basic_self basic.UnsignedShort = refl
basic_self basic.Int = refl
basic_self basic.Unsigned = refl
basic_self basic.Long = refl
basic_self basic.UnsignedLong = refl
basic_self basic.LongLong = refl
basic_self basic.UnsignedLongLong = refl

pub bool_self : (b : Bool) → same_bool b b ≡ true
bool_self true = refl
bool_self false = refl

pub ownership_self : (q : Quals) → same_ownership q q ≡ true
ownership_self q = rw (bool_self q.has_owner, bool_self q.has_view, bool_self q.has_opt) refl

pub quals_self : (q : Quals) → same_quals q q ≡ true
quals_self q = rw (bool_self q.has_const, bool_self q.has_restrict, bool_self q.has_owner, bool_self q.has_view, bool_self q.has_opt) refl

pub number_self : (n : ℕ) → nat_eq n n ≡ true
number_self n = grind arith

length_self : (n : Option ℕ) → same_length n n ≡ true
length_self None = refl
length_self (Some n) = number_self n

mutual
  pub type_self : (t : CType) → same_type t t ≡ true
  type_self (typed f q) = rw (quals_self q, form_self f) refl

  pub form_self : (f : Form) → same_form f f ≡ true
  form_self Void = refl
  form_self (Integer b) = basic_self b
  form_self (Enum b d) = rw (number_self d, basic_self b) refl
  form_self (Pointer t) = type_self t
  form_self (Array t n) = rw (type_self t, length_self n) refl
  form_self (Struct s) = number_self s.0
  form_self (Function t ps v) = rw (type_self t, types_self ps, bool_self v) refl

  types_self : (ts : Types) → same_types ts ts ≡ true
  types_self no_types = refl
  types_self (more_types t ts) = rw (type_self t, types_self ts) refl

-- ---- without qualifiers

pub unqualified_form : (t : CType) → is_array (form_of_type t) ≡ false → form_of_type (unqualified t) ≡ form_of_type t
unqualified_form (typed Void q) h = refl
unqualified_form (typed (Integer b) q) h = refl
unqualified_form (typed (Enum b d) q) h = refl
unqualified_form (typed (Pointer t) q) h = refl
unqualified_form (typed (Array t n) q) h = cc
unqualified_form (typed (Struct s) q) h = refl
unqualified_form (typed (Function t ps v) q) h = refl

pub unqualified_array : (t : CType) → is_array (form_of_type (unqualified t)) ≡ is_array (form_of_type t)
unqualified_array (typed Void q) = refl
unqualified_array (typed (Integer b) q) = refl
unqualified_array (typed (Enum b d) q) = refl
unqualified_array (typed (Pointer t) q) = refl
unqualified_array (typed (Array t n) q) = refl
unqualified_array (typed (Struct s) q) = refl
unqualified_array (typed (Function t ps v) q) = refl

pub unqualified_value : (t : CType) → is_value_form (form_of_type (unqualified t)) ≡ is_value_form (form_of_type t)
unqualified_value (typed Void q) = refl
unqualified_value (typed (Integer b) q) = refl
unqualified_value (typed (Enum b d) q) = refl
unqualified_value (typed (Pointer t) q) = refl
unqualified_value (typed (Array t n) q) = refl
unqualified_value (typed (Struct s) q) = refl
unqualified_value (typed (Function t ps v) q) = refl

unqualified_layout : (layouts : StructId → Option Layout) (t : CType) → type_layout layouts (unqualified t) ≡ type_layout layouts t
unqualified_layout layouts (typed Void q) = refl
unqualified_layout layouts (typed (Integer b) q) = refl
unqualified_layout layouts (typed (Enum b d) q) = refl
unqualified_layout layouts (typed (Pointer t) q) = refl
unqualified_layout layouts (typed (Array t None) q) = refl
unqualified_layout layouts (typed (Array t (Some n)) q) = ap (option_map (repeated n)) (unqualified_layout layouts t)
unqualified_layout layouts (typed (Struct s) q) = refl
unqualified_layout layouts (typed (Function t ps v) q) = refl

pub unqualified_complete : (structs : List Structure) (t : CType) → is_complete structs (unqualified t) ≡ is_complete structs t
unqualified_complete structs (typed Void q) = refl
unqualified_complete structs (typed (Integer b) q) = refl
unqualified_complete structs (typed (Enum b d) q) = refl
unqualified_complete structs (typed (Pointer t) q) = refl
unqualified_complete structs (typed (Array t None) q) = refl
unqualified_complete structs (typed (Array t (Some n)) q) = unqualified_complete structs t
unqualified_complete structs (typed (Struct s) q) = refl
unqualified_complete structs (typed (Function t ps v) q) = refl

unqualified_length : (structs : List Structure) (t : CType) (n : Option ℕ) → length_fits structs (unqualified t) n ≡ length_fits structs t n
unqualified_length structs t None = refl
unqualified_length structs t (Some n) =
    ap (λ l. nat_lt 0 n && is_some (option_and_then (λ l. within_limit l.size) (option_map (repeated n) l))) (unqualified_layout (layout_in structs) t)

pub unqualified_possible : (structs : List Structure) (t : CType) → is_possible structs (unqualified t) ≡ is_possible structs t
unqualified_possible structs (typed Void q) = refl
unqualified_possible structs (typed (Integer b) q) = refl
unqualified_possible structs (typed (Enum b d) q) = refl
unqualified_possible structs (typed (Pointer t) q) = refl
unqualified_possible structs (typed (Array t n) q) =
    let whole = unqualified_possible structs t in
    let complete = unqualified_complete structs t in
    let fits = unqualified_length structs t n in
    λ i. (whole i && complete i) && fits i
unqualified_possible structs (typed (Struct s) q) = refl
unqualified_possible structs (typed (Function t ps v) q) = refl

pub element_possible : (structs : List Structure) (t : CType) → is_possible structs t ≡ true → is_possible structs (element t) ≡ true
element_possible structs (typed Void q) h = h
element_possible structs (typed (Integer b) q) h = h
element_possible structs (typed (Enum b d) q) h = h
element_possible structs (typed (Pointer t) q) h = h
element_possible structs (typed (Array t n) q) h = (and_parts _ _ (and_parts _ _ h).0).0
element_possible structs (typed (Struct s) q) h = h
element_possible structs (typed (Function t ps v) q) h = h
