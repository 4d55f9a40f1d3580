-- Declarations of names (ISO/IEC 9899:2024, 6.2.1, 6.2.2, 6.7).
use Rattle.std.specs.Prelude.{ℕ, ℤ, Bool, true, false, ◌&&◌, ◌||◌, not, List, Option, Some, None, is_some}
use Rattle.cake_base.specs.declared.places.Place.{Place}
use Rattle.model_types.specs.declared.numbers.Basic.{Basic}
use Rattle.model_scopes.specs.declared.declarations.Kind.{Kind}
use Rattle.model_scopes.specs.declared.declarations.Kind.TheVariants.{Object, Function, TypeName, Enumerator, Tag}
use Rattle.model_scopes.specs.declared.declarations.Linkage.{Linkage}
use Rattle.model_scopes.specs.declared.declarations.Linkage.TheVariants.{Absent, Internal, External}
use Rattle.model_types.specs.Types as t
use Rattle.model_types.specs.Types.{CType, form_of_type}
use Rattle.model_core.specs.CoreTypes.{basic_of, is_pointer}
use Rattle.model_types.specs.Compatible.{same_basic}
use Rattle.model_core.specs.SameTypes.{is_integer, is_zero}

-- the value of an enumerator or of a `constexpr` object; of a null pointer it is 0
pub record Value : Type 0 where
  pub value : ℤ
  pub basic : Basic

-- a declaration: its name with the place, what it declares, and with which linkage and type; its value,
-- where it has one; whether it is a definition, or has the braces of a tag; and whether it declares an
-- object of automatic storage
pub record Declaration : Type 0 where
  pub name : List ℕ
  pub kind : Kind
  pub linkage : Linkage
  pub ty : CType
  pub value : Option Value
  pub defines : Bool
  pub automatic : Bool
  pub place : Place

abbrev pub is_tag : Kind → Bool
is_tag Tag = true
is_tag Object = false
is_tag Function = false
is_tag TypeName = false
is_tag Enumerator = false

abbrev pub is_typedef : Kind → Bool
is_typedef TypeName = true
is_typedef Object = false
is_typedef Function = false
is_typedef Enumerator = false
is_typedef Tag = false

-- the linkage of a declaration: only objects and functions have one (6.2.2)
abbrev pub linkage_by : Kind → Linkage → Linkage
linkage_by Object l = l
linkage_by Function l = l
linkage_by TypeName l = Absent
linkage_by Enumerator l = Absent
linkage_by Tag l = Absent

abbrev pub linkage_of : Declaration → Linkage
linkage_of d = linkage_by d.kind d.linkage

abbrev pub is_present : Linkage → Bool
is_present Absent = false
is_present Internal = true
is_present External = true

abbrev pub has_linkage : Declaration → Bool
has_linkage d = is_present (linkage_of d)

-- ---- a declaration that fits its kind

abbrev pub is_function_form : t.Form → Bool
is_function_form (t.Function r ps v) = true
is_function_form _ = false

-- the value is one of an integer type or an enumeration, or a null pointer's
abbrev pub fits_form : t.Form → Value → Bool
fits_form f v = (is_integer f && same_basic v.basic (basic_of f)) || (is_pointer f && is_zero v.value)

abbrev pub fits_if_any : t.Form → Option Value → Bool
fits_if_any f None = true
fits_if_any f (Some v) = fits_form f v

-- a function has a function type and an object none; an enumerator has a value of its integer type;
-- besides it only an object has a value
abbrev pub fits_kind : Kind → t.Form → Option Value → Bool
fits_kind Object f v = not (is_function_form f) && fits_if_any f v
fits_kind Function f v = is_function_form f && not (is_some v)
fits_kind Enumerator f v = is_integer f && is_some v && fits_if_any f v
fits_kind TypeName f v = not (is_some v)
fits_kind Tag f v = not (is_some v)

abbrev pub fits : Declaration → Bool
fits d = fits_kind d.kind (form_of_type d.ty) d.value
