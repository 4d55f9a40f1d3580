-- What arguments become is typed, and so is a call of them.
use Rattle.std.proofs.Common.{◌≡◌, refl, ℕ, zero, suc, Bool, true, false, ◌&&◌, ◌||◌, not, if◌then◌else◌, List, None, Ok}
use Rattle.std.specs.Result.{IfOk}
use Rattle.std.proofs.lemmas.Bool.{and_parts, and_from}
use Rattle.cake_base.specs.declared.places.Place.{Place}
use Rattle.model_types.specs.declared.marks.Mark.{Mark}
use Rattle.model_types.specs.Types.{CType, typed, Form, Void, Integer, Enum, Pointer, Array, Struct, Function, Types, no_types, more_types, form_of_type}
use Rattle.model_types.specs.Structures.{Structure}
use Rattle.model_types.specs.Layout.{is_complete}
use Rattle.model_core.specs.CoreTypes.{type_of, types_of, pointee, is_void, result_of_form}
use Rattle.model_core.specs.SameTypes.{is_integer, is_null_constant, same_value_type}
use Rattle.model_core.specs.TypedParts.{is_function, is_promoted, is_extra, is_function_pointer, converts, implied_fits, argument_types_fit, call_fits}
use Rattle.model_core.specs.TypedExpr.{form_of, is_typed, are_typed}
use Rattle.model_core.specs.TypedScope.{call_is_usable}
use Rattle.model_core.specs.PossibleTypes.{is_possible, are_possible, has_types, is_value_form}
use Rattle.model_core.specs.Core as unit
use Rattle.model_checking.specs.Meanings.{Operand}
use Rattle.model_checking.specs.Faults.{wants, or_fault}
use Rattle.model_checking.specs.MadeCore.{used_fault, converted, promoted_value}
use Rattle.model_checking.specs.Conversion.{may_become, keeps_qualifiers, passed_fault, passed}
use Rattle.model_checking.specs.CallRules.{parameters_in, parameters_of, is_variadic_in, is_count, call_fault, promoted_argument, argument, call}
use Rattle.typed_rule_laws.specs.TypedMeanings.{is_typed_value, is_typed_meaning, is_typed_operand}
use Rattle.typed_rule_laws.specs.TypedArguments.{argument_fits, arguments_fit, are_typed_values, exprs_count}
use Rattle.typed_rule_laws.proofs.Values.{value_parts, value_from, value_not_array, unqualified_value_type}
use Rattle.typed_rule_laws.proofs.Converted.{converts_to_value, converted_is_typed, converted_has_type, promoted_value_is_typed, promoted_value_promoted}
use Rattle.typed_rule_laws.proofs.Outcomes.{where_none, neither, wanted, used, pointer_operand}
use Rattle.typed_rule_laws.proofs.Values.{operand_is_value}
use Rattle.typed_rule_laws.proofs.UnaryForms.{function_pointer_pointer, pointee_possible}

-- ---- what is given to an object of a type

pub record Given (structs : List Structure) (type : CType) (e : unit.Expr) : Type 0 where
  pub typed_by : is_typed_value structs e ≡ true
  pub same : same_value_type type (type_of e) ≡ true

passed_parts : (structs : List Structure) (first : Place) (type : CType) (e : unit.Expr) → is_possible structs type ≡ true → is_typed_operand structs e ≡ true →
    passed_fault structs first type e ≡ None → Given structs type (converted type e)
passed_parts structs first type e p h n =
    let fits = neither (wants (may_become type e) first 16) (or_fault (wants (keeps_qualifiers type e) first 17) (used_fault structs (record { value = e; first = first }))) n in
    let behind = neither (wants (keeps_qualifiers type e) first 17) (used_fault structs (record { value = e; first = first })) fits.second in
    let value = operand_is_value structs e h (used structs (record { value = e; first = first }) behind.second).not_void in
    let null = is_null_constant e in
    let parts = and_parts (converts null (form_of e) (form_of_type type)) (implied_fits null (form_of e) (form_of_type type)) (wanted (may_become type e) first 16 fits.first) in
    record {
      typed_by = converted_is_typed structs type e value p parts.0 parts.1;
      same = converted_has_type type e (value_not_array (form_of_type type) (converts_to_value null (form_of e) (form_of_type type) parts.0));
    }

pub passed_is_typed : (structs : List Structure) (first : Place) (type : CType) (e : unit.Expr) → is_possible structs type ≡ true → is_typed_operand structs e ≡ true →
    IfOk (passed structs first type e) (λ given. (is_typed_value structs given && same_value_type type (type_of given)) ≡ true)
passed_is_typed structs first type e p h =
    where_none (λ given. (is_typed_value structs given && same_value_type type (type_of given)) ≡ true) (passed_fault structs first type e) (Ok (converted type e)) (λ n.
    let parts = passed_parts structs first type e p h n in
    and_from (is_typed_value structs (converted type e)) (same_value_type type (type_of (converted type e))) parts.typed_by parts.same)

-- ---- arguments

-- a complete value is a scalar or a structure
extra_form : (structs : List Structure) (t : CType) → is_complete structs t ≡ true → is_value_form (form_of_type t) ≡ true → is_integer (form_of_type t) ≡ false →
    is_extra (form_of_type t) ≡ true
extra_form structs (typed Void q) c v i = cc
extra_form structs (typed (Integer b) q) c v i = cc
extra_form structs (typed (Enum b d) q) c v i = cc
extra_form structs (typed (Pointer t) q) c v i = refl
extra_form structs (typed (Array t n) q) c v i = cc
extra_form structs (typed (Struct s) q) c v i = refl
extra_form structs (typed (Function t ps w) q) c v i = cc

promoted_extra : (f : Form) → is_promoted f ≡ true → is_extra f ≡ true
promoted_extra f p = rw p refl

extra_by : (structs : List Structure) (e : unit.Expr) (b : Bool) → is_integer (form_of e) ≡ b → is_typed_value structs e ≡ true → is_complete structs (type_of e) ≡ true →
    is_typed_value structs (if b then promoted_value e else e) && is_extra (form_of (if b then promoted_value e else e)) ≡ true
extra_by structs e true i h c =
    and_from (is_typed_value structs (promoted_value e)) (is_extra (form_of (promoted_value e))) (promoted_value_is_typed structs e h i)
    (promoted_extra (form_of (promoted_value e)) (promoted_value_promoted e))
extra_by structs e false i h c =
    and_from (is_typed_value structs e) (is_extra (form_of e)) h (extra_form structs (type_of e) c (value_parts structs e h).of_value i)

pub argument_is_typed : (structs : List Structure) (parameters : Types) (o : Operand) → are_possible structs parameters ≡ true → is_typed_operand structs o.value ≡ true →
    IfOk (argument structs parameters o) (λ e. (is_typed_value structs e && argument_fits parameters e) ≡ true)
argument_is_typed structs no_types o p h =
    where_none (λ e. (is_typed_value structs e && argument_fits no_types e) ≡ true) (used_fault structs o) (Ok (promoted_argument o.value)) (λ n.
    let parts = used structs o n in
    extra_by structs o.value (is_integer (form_of o.value)) refl (operand_is_value structs o.value h parts.not_void) parts.complete)
argument_is_typed structs (more_types type types) o p h =
    passed_is_typed structs o.first type o.value
    (and_parts (is_possible structs type) (is_value_form (form_of_type type))
    (and_parts (is_possible structs type && is_value_form (form_of_type type)) (not (is_void type))
    (and_parts (is_possible structs type && is_value_form (form_of_type type) && not (is_void type)) (are_possible structs types) p).0).0).0 h

-- ---- calls

-- behind the parameters there may be as many arguments as there are, where the function is variadic
variadic_count : (is_variadic : Bool) (count : ℕ) → is_variadic ≡ true → is_count no_types is_variadic count ≡ true
variadic_count is_variadic zero v = refl
variadic_count is_variadic (suc count) v = v

types_fit : (parameters : Types) (is_variadic : Bool) (es : unit.Exprs) → arguments_fit parameters es ≡ true → is_count parameters is_variadic (exprs_count es) ≡ true →
    argument_types_fit parameters is_variadic (types_of es) ≡ true
types_fit no_types is_variadic unit.no_exprs h c = refl
types_fit no_types is_variadic (unit.more_exprs e es) h c =
    let parts = and_parts (is_extra (form_of e)) (arguments_fit no_types es) h in
    and_from (is_variadic && is_extra (form_of e)) (argument_types_fit no_types is_variadic (types_of es))
    (and_from is_variadic (is_extra (form_of e)) c parts.0) (types_fit no_types is_variadic es parts.1 (variadic_count is_variadic (exprs_count es) c))
types_fit (more_types type types) is_variadic unit.no_exprs h c = cc
types_fit (more_types type types) is_variadic (unit.more_exprs e es) h c =
    let parts = and_parts (same_value_type type (type_of e)) (arguments_fit types es) h in
    and_from (same_value_type type (type_of e)) (argument_types_fit types is_variadic (types_of es)) parts.0 (types_fit types is_variadic es parts.1 c)

are_typed_by : (structs : List Structure) (es : unit.Exprs) → are_typed_values structs es ≡ true → are_typed es ≡ true
are_typed_by structs unit.no_exprs h = refl
are_typed_by structs (unit.more_exprs e es) h =
    let parts = and_parts (is_typed_value structs e) (are_typed_values structs es) h in
    and_from (is_typed e) (are_typed es) (value_parts structs e parts.0).typed_by (are_typed_by structs es parts.1)

-- the result of a function of a possible type is possible, and no array and no function
result_type : (structs : List Structure) (t : CType) → is_function (form_of_type t) ≡ true → is_possible structs t ≡ true →
    (is_possible structs (result_of_form (form_of_type t)) ≡ true) × (is_value_form (form_of_type (result_of_form (form_of_type t))) ≡ true)
result_type structs (typed (Function r ps v) q) f p =
    let possible = is_possible structs r in
    let value = is_value_form (form_of_type r) in
    let parameters = are_possible structs ps in
    and_parts possible value (and_parts (possible && value) parameters (and_parts (possible && value && parameters) (has_types ps || not v) p).0).0
result_type structs t f p = cc

call_form_fits : (f : Form) (es : unit.Exprs) → is_function f ≡ true → arguments_fit (parameters_in f) es ≡ true → is_count (parameters_in f) (is_variadic_in f) (exprs_count es) ≡ true →
    call_fits f (types_of es) ≡ true
call_form_fits (Function r ps v) es f h c = types_fit ps v es h c
call_form_fits f es is h c = cc

pointed_function : (f : Form) → is_function_pointer f ≡ true → is_function (form_of_type (pointee f)) ≡ true
pointed_function (Pointer t) h = h
pointed_function f h = cc

pub call_is_typed : (structs : List Structure) (mark : Mark) (at : Place) (function : Operand) (es : unit.Exprs) → is_typed_operand structs function.value ≡ true →
    are_typed_values structs es ≡ true → arguments_fit (parameters_of function) es ≡ true → call_fault structs at function (exprs_count es) ≡ None →
    is_typed_meaning structs (call mark function es) ≡ true
call_is_typed structs mark at function es h values fit n =
    let f = form_of function.value in
    let target = form_of_type (pointee f) in
    let usable = wants (call_is_usable structs target) function.first 22 in
    let counted = wants (is_count (parameters_in target) (is_variadic_in target) (exprs_count es)) at 15 in
    let first = neither (wants (is_function_pointer f) function.first 14) (or_fault usable counted) n in
    let second = neither usable counted first.second in
    let pointer = wanted (is_function_pointer f) function.first 14 first.first in
    let count = wanted (is_count (parameters_in target) (is_variadic_in target) (exprs_count es)) at 15 second.second in
    let parts = value_parts structs function.value (pointer_operand structs function.value h (function_pointer_pointer f pointer)) in
    let result = result_type structs (pointee f) (pointed_function f pointer) (pointee_possible structs (type_of function.value) parts.possible) in
    value_from structs (unit.Call function.value es mark)
    (rw (parts.typed_by, are_typed_by structs es values, call_form_fits target es (pointed_function f pointer) fit count) refl)
    (unqualified_value_type structs (result_of_form target) result.0 result.1)
