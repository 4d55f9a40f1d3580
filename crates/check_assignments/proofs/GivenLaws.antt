-- What is known of a value that may be given to an object of a type.
use Rattle.std.proofs.Common.{◌≡◌, ◌∙◌, ap, sym, refl, Bool, true, false, ◌&&◌, ◌||◌, not, List, None}
use Rattle.std.proofs.lemmas.Bool.{and_parts}
use Rattle.cake_base.specs.declared.places.Place.{Place}
use Rattle.model_types.specs.declared.numbers.Basic.TheVariants as basic
use Rattle.model_types.specs.Types.{CType, typed, Form, Void, Integer, Enum, Pointer, Array, Struct, Function, form_of_type}
use Rattle.model_types.specs.Structures.{Structure}
use Rattle.model_core.specs.CoreTypes.{type_of, object_type, unqualified}
use Rattle.model_core.specs.SameTypes.{is_null_constant, same_value_type, same_form}
use Rattle.model_core.specs.TypedParts.{converts, implied_fits, is_storable}
use Rattle.model_core.specs.TypedExpr.{form_of}
use Rattle.model_core.specs.SourceMarks.{lvalue_mark}
use Rattle.model_core.specs.Core as unit
use Rattle.model_checking.specs.Faults.{wants, or_fault}
use Rattle.model_checking.specs.MadeCore.{converted, used_fault}
use Rattle.model_checking.specs.Conversion.{may_become, keeps_qualifiers, passed_fault}
use Rattle.check_base.specs.declared.meanings.OperandValue.{OperandValue}
use Rattle.check_base.specs.declared.meanings.OperandValue.TheVariants as value
use Rattle.check_base.specs.Meanings.{value_in}
use Rattle.check_assignments.specs.HeldBy.{has_value}
use Rattle.typed_rule_laws.proofs.Outcomes.{neither, wanted}
use Rattle.typed_rule_laws.proofs.Converted.{converted_is_of_type}
use Rattle.typed_rule_laws.proofs.SameForms.{same_form_is}

record Becomes (to : CType) (e : unit.Expr) : Type 0 where
  converts_to : converts (is_null_constant e) (form_of e) (form_of_type to) ≡ true
  fits : implied_fits (is_null_constant e) (form_of e) (form_of_type to) ≡ true

becomes : (structs : List Structure) (first : Place) (to : CType) (e : unit.Expr) → passed_fault structs first to e ≡ None → Becomes to e
becomes structs first to e n =
    let behind = or_fault (wants (keeps_qualifiers to e) first 17) (used_fault structs (record { value = e; first = first })) in
    let may = wanted (may_become to e) first 16 (neither (wants (may_become to e) first 16) behind n).first in
    let null = is_null_constant e in
    let parts = and_parts (converts null (form_of e) (form_of_type to)) (implied_fits null (form_of e) (form_of_type to)) may in
    record { converts_to = parts.0; fits = parts.1 }

pub passed_converts : (structs : List Structure) (first : Place) (to : CType) (e : unit.Expr) → passed_fault structs first to e ≡ None →
    converts (is_null_constant e) (form_of e) (form_of_type to) ≡ true
passed_converts structs first to e n = (becomes structs first to e n).converts_to

pub passed_fits : (structs : List Structure) (first : Place) (to : CType) (e : unit.Expr) → passed_fault structs first to e ≡ None →
    implied_fits (is_null_constant e) (form_of e) (form_of_type to) ≡ true
passed_fits structs first to e n = (becomes structs first to e n).fits

pub passed_of_type : (structs : List Structure) (first : Place) (to : CType) (e : unit.Expr) → passed_fault structs first to e ≡ None →
    same_value_type to (type_of (converted to e)) ≡ true
passed_of_type structs first to e n = converted_is_of_type to e (becomes structs first to e n).converts_to

-- ---- an object whose value becomes one of a type can be loaded

storable_to : (f g : Form) → converts false f g ≡ true → implied_fits false f g ≡ true → is_storable f ≡ true
storable_to Void Void c i = cc
storable_to Void (Integer basic.Bool) c i = cc
storable_to Void (Integer b) c i = cc
storable_to Void (Enum b d) c i = cc
storable_to Void (Pointer t) c i = cc
storable_to Void (Array t n) c i = cc
storable_to Void (Struct s) c i = cc
storable_to Void (Function t ps v) c i = cc
storable_to (Integer b) g c i = refl
storable_to (Enum b d) g c i = refl
storable_to (Pointer t) g c i = refl
storable_to (Struct s) g c i = refl
storable_to (Array u m) Void c i = cc
storable_to (Array u m) (Integer basic.Bool) c i = cc
storable_to (Array u m) (Integer b) c i = cc
storable_to (Array u m) (Enum b d) c i = cc
storable_to (Array u m) (Pointer t) c i = cc
storable_to (Array u m) (Array t n) c i = cc
storable_to (Array u m) (Struct s) c i = cc
storable_to (Array u m) (Function t ps v) c i = cc
storable_to (Function r qs w) Void c i = cc
storable_to (Function r qs w) (Integer basic.Bool) c i = cc
storable_to (Function r qs w) (Integer b) c i = cc
storable_to (Function r qs w) (Enum b d) c i = cc
storable_to (Function r qs w) (Pointer t) c i = cc
storable_to (Function r qs w) (Array t n) c i = cc
storable_to (Function r qs w) (Struct s) c i = cc
storable_to (Function r qs w) (Function t ps v) c i = cc

-- with its qualifiers or without
pub storable_object : (t : CType) → is_storable (form_of_type (unqualified t)) ≡ true → is_storable (form_of_type t) ≡ true
storable_object (typed Void q) h = h
storable_object (typed (Integer b) q) h = h
storable_object (typed (Enum b d) q) h = h
storable_object (typed (Pointer t) q) h = h
storable_object (typed (Array t n) q) h = cc
storable_object (typed (Struct s) q) h = h
storable_object (typed (Function t ps v) q) h = h

pub passed_has_value : (structs : List Structure) (first : Place) (to : CType) (v : OperandValue) → passed_fault structs first to (value_in v) ≡ None → has_value v ≡ true
passed_has_value structs first to (value.Read e) n = refl
passed_has_value structs first to (value.Unread object) n =
    let parts = becomes structs first to (unit.Load object (lvalue_mark object)) n in
    storable_object (object_type object) (storable_to (form_of_type (unqualified (object_type object))) (form_of_type to) parts.converts_to parts.fits)
