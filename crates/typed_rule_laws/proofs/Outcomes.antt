-- What a rule makes where it breaks nothing.
use Rattle.std.proofs.Common.{◌≡◌, refl, Bool, true, false, Option, Some, None, Result, List, if◌then◌else◌, ℕ}
use Rattle.std.specs.Result.{IfOk}
use Rattle.cake_base.specs.declared.places.Place.{Place}
use Rattle.cake_base.specs.declared.rules.Fault.{Fault}
use Rattle.model_types.specs.Types.{CType, typed, Form, Void, Integer, Enum, Pointer, Array, Struct, Function, form_of_type}
use Rattle.model_types.specs.Structures.{Structure}
use Rattle.model_types.specs.Layout.{is_complete}
use Rattle.model_core.specs.CoreTypes.{type_of, is_void, is_pointer}
use Rattle.model_core.specs.SameTypes.{is_integer}
use Rattle.model_core.specs.TypedParts.{is_scalar}
use Rattle.model_core.specs.Core as unit
use Rattle.model_checking.specs.State.{unless}
use Rattle.model_checking.specs.Meanings.{Operand}
use Rattle.model_checking.specs.Faults.{wants, or_fault}
use Rattle.model_checking.specs.MadeCore.{used_fault}
use Rattle.typed_rule_laws.specs.TypedMeanings.{is_typed_value, is_typed_operand}
use Rattle.typed_rule_laws.proofs.Values.{operand_is_value}

pub where_wanted : {A : Type 0} (P : A → Type 0) (b : Bool) (place : Place) (rule : ℕ) (r : Result A Fault) → (b ≡ true → IfOk r P) → IfOk (unless (wants b place rule) r) P
where_wanted P true place rule r h = h refl
where_wanted P false place rule r h = tt

pub where_none : {A : Type 0} (P : A → Type 0) (o : Option Fault) (r : Result A Fault) → (o ≡ None → IfOk r P) → IfOk (unless o r) P
where_none P None r h = h refl
where_none P (Some fault) r h = tt

pub record Neither (o p : Option Fault) : Type 0 where
  pub first : o ≡ None
  pub second : p ≡ None

pub neither : (o p : Option Fault) → or_fault o p ≡ None → Neither o p
neither None p h = record { first = refl; second = h }
neither (Some fault) p h = cc

pub wanted : (b : Bool) (place : Place) (rule : ℕ) → wants b place rule ≡ None → b ≡ true
wanted true place rule h = refl
wanted false place rule h = cc

pub record Used (structs : List Structure) (t : CType) : Type 0 where
  pub not_void : is_void t ≡ false
  pub complete : is_complete structs t ≡ true

used_by : (structs : List Structure) (t : CType) (first : Place) (b : Bool) → is_void t ≡ b →
    (if b then wants false first 21 else wants (is_complete structs t) first 22) ≡ None → Used structs t
used_by structs t first true e h = cc
used_by structs t first false e h = record { not_void = e; complete = wanted (is_complete structs t) first 22 h }

pub used : (structs : List Structure) (o : Operand) → used_fault structs o ≡ None → Used structs (type_of o.value)
used structs o h = used_by structs (type_of o.value) o.first (is_void (type_of o.value)) refl h

-- ---- operands by their forms

scalar_not_void : (t : CType) → is_scalar (form_of_type t) ≡ true → is_void t ≡ false
scalar_not_void (typed Void q) h = cc
scalar_not_void (typed (Integer b) q) h = refl
scalar_not_void (typed (Enum b d) q) h = refl
scalar_not_void (typed (Pointer t) q) h = refl
scalar_not_void (typed (Array t n) q) h = refl
scalar_not_void (typed (Struct s) q) h = refl
scalar_not_void (typed (Function t ps v) q) h = refl

pub integer_scalar : (f : Form) → is_integer f ≡ true → is_scalar f ≡ true
integer_scalar Void h = cc
integer_scalar (Integer b) h = refl
integer_scalar (Enum b d) h = refl
integer_scalar (Pointer t) h = refl
integer_scalar (Array t n) h = cc
integer_scalar (Struct s) h = cc
integer_scalar (Function t ps v) h = cc

pub pointer_scalar : (f : Form) → is_pointer f ≡ true → is_scalar f ≡ true
pointer_scalar Void h = cc
pointer_scalar (Integer b) h = refl
pointer_scalar (Enum b d) h = refl
pointer_scalar (Pointer t) h = refl
pointer_scalar (Array t n) h = cc
pointer_scalar (Struct s) h = cc
pointer_scalar (Function t ps v) h = cc

pub scalar_operand : (structs : List Structure) (e : unit.Expr) → is_typed_operand structs e ≡ true → is_scalar (form_of_type (type_of e)) ≡ true → is_typed_value structs e ≡ true
scalar_operand structs e h s = operand_is_value structs e h (scalar_not_void (type_of e) s)

pub integer_operand : (structs : List Structure) (e : unit.Expr) → is_typed_operand structs e ≡ true → is_integer (form_of_type (type_of e)) ≡ true → is_typed_value structs e ≡ true
integer_operand structs e h n = scalar_operand structs e h (integer_scalar (form_of_type (type_of e)) n)

pub pointer_operand : (structs : List Structure) (e : unit.Expr) → is_typed_operand structs e ≡ true → is_pointer (form_of_type (type_of e)) ≡ true → is_typed_value structs e ≡ true
pointer_operand structs e h p = scalar_operand structs e h (pointer_scalar (form_of_type (type_of e)) p)
