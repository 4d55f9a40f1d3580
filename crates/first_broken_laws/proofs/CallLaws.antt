-- Calls, casts and measures name the first constraint that they break.
use Rattle.std.proofs.Common.{◌≡◌, ap, refl, ℕ, zero, suc, pos, Bool, true, false, ◌&&◌, ◌||◌, not, Ok, List, arith}
use Rattle.std.proofs.lemmas.Bool.{both_ways}
use Rattle.cake_base.specs.declared.places.Place.{Place}
use Rattle.model_types.specs.declared.numbers.Basic.{Basic}
use Rattle.model_types.specs.declared.numbers.Basic.TheVariants as basic
use Rattle.model_types.specs.declared.marks.Mark.{Mark}
use Rattle.model_types.specs.declared.marks.Origin.TheVariants.{Written}
use Rattle.model_types.specs.Types.{CType, Form, Void, Integer, Enum, Pointer, Array, Struct, Function, Types, no_types, more_types, form_of_type}
use Rattle.model_types.specs.Structures.{Structure}
use Rattle.model_types.specs.Layout.{is_complete}
use Rattle.model_scopes.specs.DeclarationRules.{constraint_at}
use Rattle.model_core.specs.CoreTypes.{is_void, pointee, unqualified}
use Rattle.model_core.specs.BuiltinTypes.{size_type}
use Rattle.model_core.specs.SameTypes.{is_integer, is_null_constant, same_form}
use Rattle.model_core.specs.TypedParts.{is_scalar, is_function, is_object_pointer, is_function_pointer, converts, origin_fits}
use Rattle.model_core.specs.TypedScope.{are_complete, call_is_usable}
use Rattle.model_core.specs.TypedExpr.{form_of}
use Rattle.model_core.specs.Core as unit
use Rattle.model_checking.specs.State.{unless}
use Rattle.model_checking.specs.Faults.{wants, or_fault}
use Rattle.model_checking.specs.MadeCore.{operand_form, constant, unread_fault}
use Rattle.model_checking.specs.Meanings.{a_value, Operand}
use Rattle.model_checking.specs.CallRules.{called_form, parameters_in, parameters_of, is_variadic_in, is_count, call_fault}
use Rattle.model_checking.specs.CastRules.{may_be_cast, cast}
use Rattle.model_checking.specs.SizeRules.{measured}
use Rattle.model_constraints.specs.Pairs.{At, Beside}
use Rattle.model_constraints.specs.BrokenValues.{broken_reading}
use Rattle.model_constraints.specs.BrokenCalls.{are_all_complete, may_be_called, fits_count, takes_count, broken_called}
use Rattle.model_constraints.specs.BrokenCasts.{may_be_cast as can_be_cast, broken_cast, broken_measure}
use Rattle.first_broken_laws.specs.FirstNamed.{Names, Answers, Precedes}
use Rattle.first_broken_laws.proofs.PairLaws.{all_here, all_beside, all_stand, stand_at, names_at, wanted_unless, wanted_alone, wanted_then, fault_alone}
use Rattle.first_broken_laws.proofs.Operands.{reading_named, reading_stands}

-- ---- what is called

all_complete_same : (structs : List Structure) (types : Types) → are_all_complete structs types ≡ are_complete structs types
all_complete_same structs no_types = refl
all_complete_same structs (more_types type types) = ap (λ x. is_complete structs type && x) (all_complete_same structs types)

called_same : (structs : List Structure) (f : Form) → may_be_called structs f ≡ call_is_usable structs f
called_same structs (Function result parameters is_variadic) =
    ap (λ x. (is_void result || is_complete structs result) && x) (all_complete_same structs parameters)
called_same structs Void = refl
called_same structs (Integer b) = refl
called_same structs (Enum b d) = refl
called_same structs (Pointer t) = refl
called_same structs (Array t n) = refl
called_same structs (Struct s) = refl

count_by : (types : Types) (is_variadic : Bool) (count : ℕ) → fits_count types is_variadic count ≡ is_count types is_variadic count
count_by no_types is_variadic zero = refl
count_by no_types is_variadic (suc count) = refl
count_by (more_types type types) is_variadic zero = refl
count_by (more_types type types) is_variadic (suc count) = count_by types is_variadic count

count_same : (f : Form) (count : ℕ) → is_function f ≡ true → takes_count f count ≡ is_count (parameters_in f) (is_variadic_in f) count
count_same (Function result parameters is_variadic) count h = count_by parameters is_variadic count
count_same f count h = cc

function_behind : (f : Form) → is_function_pointer f ≡ true → is_function (form_of_type (pointee f)) ≡ true
function_behind (Pointer t) h = h
function_behind f h = cc

guarded_by : (g c w : Bool) → g ≡ true → c ≡ w → (g && not c) ≡ not w
guarded_by true c w e d = ap not d
guarded_by false c w e d = absurd (both_ways false refl e)

unguarded : (g c : Bool) → g ≡ false → (g && c) ≡ false
unguarded true c e = absurd (both_ways true e refl)
unguarded false c e = refl

pub call_named : (structs : List Structure) (at : Place) (f : Operand) (count : ℕ) → Precedes f.first at →
    Names (broken_called structs at f count) (call_fault structs at f count)
call_named structs at f count before =
    let g = is_function_pointer (operand_form f) in
    let usable = call_is_usable structs (called_form f) in
    let counted = is_count (parameters_of f) (is_variadic_in (called_form f)) count in
    let c = g && not (may_be_called structs (called_form f)) in
    let d = g && not (takes_count (called_form f) count) in
    wanted_then f.first 14 (not g) g (Beside (At f.first 22 c) (At at 15 d)) (or_fault (wants usable f.first 22) (wants counted at 15)) refl
    (λ w. wanted_then f.first 22 c usable (At at 15 d) (wants counted at 15) (guarded_by g (may_be_called structs (called_form f)) usable w (called_same structs (called_form f)))
    (λ v. names_at at 15 d counted (guarded_by g (takes_count (called_form f) count) counted w (count_same (called_form f) count (function_behind (operand_form f) w))))
    (λ v. all_stand (constraint_at f.first 22) (At at 15 d) (stand_at f.first at 15 d (λ e. before))))
    (λ w. all_beside (constraint_at f.first 14) (At f.first 22 c) (At at 15 d) (all_here f.first 14 22 c (omega arith))
    (all_stand (constraint_at f.first 14) (At at 15 d) (stand_at f.first at 15 d (λ e. before))))

-- ---- casts

and_true : (x : Bool) → x ≡ (x && true)
and_true true = refl
and_true false = refl

and_false : (x : Bool) → false ≡ (x && false)
and_false true = refl
and_false false = refl

integer_cast : (null : Bool) (e : unit.Expr) (b : Basic) → can_be_cast (Integer b) e ≡ (converts null (form_of e) (Integer b) && true)
integer_cast null e basic.Bool = and_true (is_scalar (form_of e))
integer_cast null e b = and_true (is_integer (form_of e))

cast_form : (e : unit.Expr) (to : Form) →
    can_be_cast to e ≡ (converts (is_null_constant e) (form_of e) to && origin_fits Written (is_null_constant e) (form_of e) to)
cast_form e Void = refl
cast_form e (Integer b) = integer_cast (is_null_constant e) e b
cast_form e (Enum b d) = and_true (is_integer (form_of e))
cast_form e (Pointer t) =
    and_true (is_null_constant e || is_object_pointer (form_of e) && is_object_pointer (Pointer t) || is_function_pointer (form_of e) && is_function_pointer (Pointer t))
cast_form e (Array t n) = refl
cast_form e (Struct s) = and_false (same_form (form_of e) (Struct s))
cast_form e (Function t ps v) = refl

pub cast_first : (structs : List Structure) (mark : Mark) (to : CType) (o : Operand) → Precedes mark.at o.first →
    Answers (broken_cast structs mark.at to o) (cast structs mark to o)
cast_first structs mark to o lt =
    let made = a_value (unit.Convert Written (unqualified to) o.value mark) in
    let c = can_be_cast (form_of_type to) o.value in
    wanted_unless mark.at 18 (not c) (may_be_cast to o.value) (broken_reading structs o) (unless (unread_fault structs o) (Ok made)) (ap not (cast_form o.value (form_of_type to)))
    (λ w. fault_alone (broken_reading structs o) (unread_fault structs o) made (reading_named structs o))
    (λ w. all_stand (constraint_at mark.at 18) (broken_reading structs o) (reading_stands structs mark.at o lt))

-- ---- measures

pub measure_first : (structs : List Structure) (mark : Mark) (first : Place) (type : CType) (measure : ℕ) →
    Answers (broken_measure structs first type) (measured structs mark first type measure)
measure_first structs mark first type measure =
    wanted_alone first 22 (not (is_complete structs type)) (is_complete structs type) (a_value (constant (pos measure) size_type mark)) refl
