-- Objects that are stepped may be assigned to, in the type of the step.
use Rattle.std.proofs.Common.{◌≡◌, ◌∙◌, ap, sym, refl, ℤ, Bool, true, false, ◌&&◌, None, Some, Option, List, if◌then◌else◌}
use Rattle.cake_base.specs.declared.places.Place.{Place}
use Rattle.model_types.specs.declared.numbers.Basic.TheVariants as basic
use Rattle.model_types.specs.declared.operators.StepSide.{StepSide}
use Rattle.model_types.specs.declared.marks.Mark.{Mark}
use Rattle.model_types.specs.declared.marks.Origin.TheVariants.{Implied}
use Rattle.model_types.specs.Types.{CType, typed, Void, Integer, Enum, Pointer, Array, Struct, Function, form_of_type}
use Rattle.model_types.specs.Structures.{Structure}
use Rattle.model_types.specs.Conversions.{common}
use Rattle.model_core.specs.CoreTypes.{type_of, object_type, unqualified, is_pointer, basic_of}
use Rattle.model_core.specs.SameTypes.{is_plain_void_pointer}
use Rattle.model_core.specs.TypedParts.{is_scalar, is_object_pointer, may_be_assigned, step_fits}
use Rattle.model_core.specs.TypedExpr.{form_of, object_form}
use Rattle.model_core.specs.SourceMarks.{lvalue_mark}
use Rattle.model_core.specs.Core as unit
use Rattle.model_checking.specs.Meanings.{a_place}
use Rattle.model_checking.specs.Faults.{wants}
use Rattle.model_checking.specs.MadeCore.{operand, object_value, constant, integer_type}
use Rattle.model_checking.specs.UnaryRules.{is_modifiable, step_fault, step_type}
use Rattle.typed_rule_laws.proofs.TypeForms.{type_self, basic_self}
use Rattle.typed_rule_laws.proofs.Integers.{common_is_promoted}
use Rattle.typed_rule_laws.proofs.Outcomes.{neither, wanted}
use Rattle.typed_rule_laws.proofs.UnaryForms.{Modifiable, modifiable, assigned_to, object_value_form, moved_object, StepParts, step_parts}

known_by : (t : CType) (v : ℤ) (mark : Mark) (void : Bool) →
    type_of (if void then unit.Convert Implied (unqualified t) (constant v t mark) mark else constant v t mark) ≡ unqualified t
known_by t v mark true = refl
known_by t v mark false = refl

-- what is known of an object is of its type
pub known_type : (object : unit.Lvalue) (v : ℤ) → type_of (object_value object (Some v)) ≡ unqualified (object_type object)
known_type object v = known_by (object_type object) v (lvalue_mark object) (is_plain_void_pointer (object_form object))

-- ---- a step that breaks nothing

pub record Steps (structs : List Structure) (at first : Place) (object : unit.Lvalue) (known : Option ℤ) : Type 0 where
  pub changed : Modifiable structs object
  pub scalar : is_scalar (object_form object) ≡ true
  pub moves : is_pointer (object_form object) ≡ true → is_object_pointer (object_form object) ≡ true

steps : (structs : List Structure) (side : StepSide) (at first : Place) (object : unit.Lvalue) (known : Option ℤ) →
    step_fault structs side at first (a_place object known) ≡ None → Steps structs at first object known
steps structs side at first object known h =
    let parts = step_parts structs side at first (a_place object known) h in
    let operator = neither (wants (is_scalar (form_of (object_value object known))) at 9) (wants (is_modifiable structs (a_place object known)) at 10) parts.operator in
    let changed = modifiable structs object known (wanted (is_modifiable structs (a_place object known)) at 10 operator.second) in
    let same = object_value_form object known changed.not_array in
    record {
      changed = changed;
      scalar = ap is_scalar (sym same) ∙ wanted (is_scalar (form_of (object_value object known))) at 9 operator.first;
      moves = λ p. ap is_object_pointer (sym same) ∙ moved_object structs (operand first (a_place object known)) parts.moves (ap is_pointer same ∙ p);
    }

pub step_is_assigned : (structs : List Structure) (side : StepSide) (at first : Place) (object : unit.Lvalue) (known : Option ℤ) →
    step_fault structs side at first (a_place object known) ≡ None → may_be_assigned (object_type object) ≡ true
step_is_assigned structs side at first object known h = assigned_to structs object (steps structs side at first object known h).changed

fit_by : (t : CType) → is_scalar (form_of_type t) ≡ true → (is_pointer (form_of_type t) ≡ true → is_object_pointer (form_of_type t) ≡ true) →
    step_fits (form_of_type (if is_pointer (form_of_type t) then unqualified t else integer_type (common (basic_of (form_of_type t)) basic.Int))) (form_of_type t) ≡ true
fit_by (typed Void q) s p = cc
fit_by (typed (Integer b) q) s p = rw (common_is_promoted b basic.Int, basic_self (common b basic.Int)) refl
fit_by (typed (Enum b d) q) s p = rw (common_is_promoted b basic.Int, basic_self (common b basic.Int)) refl
fit_by (typed (Pointer t) q) s p = rw (p refl, type_self t) refl
fit_by (typed (Array t n) q) s p = cc
fit_by (typed (Struct x) q) s p = cc
fit_by (typed (Function t ps v) q) s p = cc

pub step_is_fit : (structs : List Structure) (side : StepSide) (at first : Place) (object : unit.Lvalue) (known : Option ℤ) →
    step_fault structs side at first (a_place object known) ≡ None → step_fits (form_of_type (step_type object)) (object_form object) ≡ true
step_is_fit structs side at first object known h =
    let parts = steps structs side at first object known h in
    fit_by (object_type object) parts.scalar parts.moves
