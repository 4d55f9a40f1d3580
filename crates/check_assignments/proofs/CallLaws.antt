-- Laws of calls.
use Rattle.std.proofs.Common.{◌≡◌, ◌∙◌, ap, sym, refl, arith, ℕ, zero, suc, ◌==◌, ◌<◌, nat_eq, nat_lt, Bool, true, false, ◌&&◌, ◌||◌, not, IsTrue, List, [], ◌∷◌, length, None}
use Rattle.std.proofs.lemmas.Bool.{and_parts}
use Rattle.cake_base.specs.declared.places.Place.{Place}
use Rattle.model_types.specs.declared.marks.Mark.{Mark}
use Rattle.model_types.specs.Types.{CType, typed, Form, Void, Integer, Enum, Pointer, Array, Struct, Function, Types, no_types, more_types, types, form_of_type}
use Rattle.model_types.specs.Structures.{Structure}
use Rattle.model_core.specs.CoreTypes.{type_of, types_of, object_type, unqualified, is_void, pointee}
use Rattle.model_core.specs.TypedParts.{is_storable, call_fits}
use Rattle.model_core.specs.TypedExpr.{form_of, object_form, is_typed, is_typed_lvalue, are_typed}
use Rattle.model_core.specs.SourceMarks.{lvalue_mark}
use Rattle.model_core.specs.Core as unit
use Rattle.model_checking.specs.MadeCore.{used_fault}
use Rattle.model_checking.specs.CallRules.{is_count}
use Rattle.check_base.specs.declared.meanings.OperandValue.{OperandValue}
use Rattle.check_base.specs.declared.meanings.OperandValue.TheVariants as value
use Rattle.check_base.specs.Meanings.{value_in}
use Rattle.check_assignments.specs.HeldBy.{has_value}
use Rattle.typed_rule_laws.specs.TypedMeanings.{is_typed_operand}
use Rattle.typed_rule_laws.proofs.Values.{value_parts, operand_is_value}
use Rattle.typed_rule_laws.proofs.Outcomes.{used}

-- an operand that is typed has a value
pub typed_has_value : (v : OperandValue) → is_typed (value_in v) ≡ true → has_value v ≡ true
typed_has_value (value.Read e) h = refl
typed_has_value (value.Unread object) h = (and_parts (is_typed_lvalue object) (is_storable (object_form object)) h).1

pub used_has_value : (structs : List Structure) (first : Place) (v : OperandValue) → is_typed_operand structs (value_in v) ≡ true →
    used_fault structs (record { value = value_in v; first = first }) ≡ None → has_value v ≡ true
used_has_value structs first v h n =
    typed_has_value v (value_parts structs (value_in v) (operand_is_value structs (value_in v) h (used structs (record { value = value_in v; first = first }) n).not_void)).typed_by

pub called_has_value : (v : OperandValue) (es : unit.Exprs) (mark : Mark) → IsTrue (is_typed (unit.Call (value_in v) es mark)) → has_value v ≡ true
called_has_value v es mark h =
    let t : is_typed (unit.Call (value_in v) es mark) ≡ true = cc in
    let front = (and_parts (is_typed (value_in v) && are_typed es) (call_fits (form_of_type (pointee (form_of (value_in v)))) (types_of es)) t).0 in
    typed_has_value v (and_parts (is_typed (value_in v)) (are_typed es) front).0

-- ---- as many arguments as parameters, or more

abbrev counted : ℕ → (is_variadic : Bool) → (count : ℕ) → Bool
counted n is_variadic count = nat_eq count n || is_variadic && nat_lt n count

counts_by : (ts : List CType) (is_variadic : Bool) (count : ℕ) → is_count (types ts) is_variadic count ≡ counted (length ts) is_variadic count
counts_by [] is_variadic zero = grind arith
counts_by [] is_variadic (suc count) = grind arith
counts_by (t ∷ ts) is_variadic zero = grind arith
counts_by (t ∷ ts) is_variadic (suc count) =
    let same : counted (suc (length ts)) is_variadic (suc count) ≡ counted (length ts) is_variadic count = grind arith in
    counts_by ts is_variadic count ∙ sym same

pub counts : (ts : List CType) (is_variadic : Bool) (count : ℕ) → is_count (types ts) is_variadic count ≡ (nat_eq count (length ts) || is_variadic && nat_lt (length ts) count)
counts ts is_variadic count = counts_by ts is_variadic count
