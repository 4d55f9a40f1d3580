-- What was typed stays typed where types are kept.
use Rattle.std.proofs.Common.{◌≡◌, refl, Bool, true, false, ◌&&◌, ◌||◌, not, List, None}
use Rattle.std.proofs.lemmas.Bool.{and_parts, and_from, or_right}
use Rattle.cake_base.specs.declared.places.Place.{Place}
use Rattle.model_types.specs.Types.{CType, typed, Form, Void, Integer, Enum, Pointer, Array, Struct, Function, Types, no_types, more_types, form_of_type}
use Rattle.model_types.specs.Structures.{Structure}
use Rattle.model_core.specs.CoreTypes.{type_of, object_type, int_type, no_quals}
use Rattle.model_core.specs.TypedParts.{is_function, is_array, is_function_pointer}
use Rattle.model_core.specs.TypedExpr.{form_of, object_form, is_typed, is_typed_lvalue}
use Rattle.model_core.specs.PossibleTypes.{is_possible, are_possible, is_value_form, has_types}
use Rattle.model_core.specs.Core as unit
use Rattle.model_checking.specs.Meanings.{Meaning, a_place, a_value, a_function, a_target}
use Rattle.typed_rule_laws.specs.TypedMeanings.{is_value_type, is_object_type, is_typed_value, is_typed_object, is_typed_meaning, is_typed_operand, known_fits}
use Rattle.typed_walk_laws.specs.Behind.{TypesKept}

value_type_kept : (a b : List Structure) (t : CType) → TypesKept a b → is_value_type a t ≡ true → is_value_type b t ≡ true
value_type_kept a b t k h =
    let parts = and_parts (is_possible a t) (is_value_form (form_of_type t)) h in
    and_from (is_possible b t) (is_value_form (form_of_type t)) (k.possible t parts.0) parts.1

object_type_kept : (a b : List Structure) (t : CType) → TypesKept a b → is_object_type a t ≡ true → is_object_type b t ≡ true
object_type_kept a b t k h =
    let parts = and_parts (is_possible a t) (not (is_function (form_of_type t))) h in
    and_from (is_possible b t) (not (is_function (form_of_type t))) (k.possible t parts.0) parts.1

pub value_kept : (a b : List Structure) (e : unit.Expr) → TypesKept a b → is_typed_value a e ≡ true → is_typed_value b e ≡ true
value_kept a b e k h =
    let parts = and_parts (is_typed e) (is_value_type a (type_of e)) h in
    and_from (is_typed e) (is_value_type b (type_of e)) parts.0 (value_type_kept a b (type_of e) k parts.1)

object_kept : (a b : List Structure) (object : unit.Lvalue) → TypesKept a b → is_typed_object a object ≡ true → is_typed_object b object ≡ true
object_kept a b object k h =
    let parts = and_parts (is_typed_lvalue object) (is_object_type a (object_type object)) h in
    and_from (is_typed_lvalue object) (is_object_type b (object_type object)) parts.0 (object_type_kept a b (object_type object) k parts.1)

pub operand_kept : (a b : List Structure) (e : unit.Expr) → TypesKept a b → is_typed_operand a e ≡ true → is_typed_operand b e ≡ true
operand_kept a b (unit.Load object mark) k h =
    let parts = and_parts (is_typed_object a object) (not (is_array (object_form object))) h in
    and_from (is_typed_object b object) (not (is_array (object_form object))) (object_kept a b object k parts.0) parts.1
operand_kept a b (unit.Constant value type mark) k h = value_kept a b (unit.Constant value type mark) k h
operand_kept a b (unit.Address origin object mark) k h = value_kept a b (unit.Address origin object mark) k h
operand_kept a b (unit.FunctionRef id type by_name mark) k h = value_kept a b (unit.FunctionRef id type by_name mark) k h
operand_kept a b (unit.Unary op e mark) k h = value_kept a b (unit.Unary op e mark) k h
operand_kept a b (unit.Binary op x y mark) k h = value_kept a b (unit.Binary op x y mark) k h
operand_kept a b (unit.Logic op x y mark) k h = value_kept a b (unit.Logic op x y mark) k h
operand_kept a b (unit.Choice c x y mark) k h = value_kept a b (unit.Choice c x y mark) k h
operand_kept a b (unit.Convert origin type e mark) k h = value_kept a b (unit.Convert origin type e mark) k h
operand_kept a b (unit.Call function arguments mark) k h = value_kept a b (unit.Call function arguments mark) k h
operand_kept a b (unit.Assign assignment object value mark) k h = value_kept a b (unit.Assign assignment object value mark) k h
operand_kept a b (unit.Step op side type object mark) k h = value_kept a b (unit.Step op side type object mark) k h
operand_kept a b (unit.MemberValue structure rank type name mark) k h = value_kept a b (unit.MemberValue structure rank type name mark) k h
operand_kept a b (unit.Comma x y mark) k h = value_kept a b (unit.Comma x y mark) k h

pub meaning_kept : (a b : List Structure) (m : Meaning) → TypesKept a b → is_typed_meaning a m ≡ true → is_typed_meaning b m ≡ true
meaning_kept a b (a_place object known) k h =
    let parts = and_parts (is_typed_object a object) (known_fits known (object_form object)) h in
    and_from (is_typed_object b object) (known_fits known (object_form object)) (object_kept a b object k parts.0) parts.1
meaning_kept a b (a_value value) k h = value_kept a b value k h
meaning_kept a b (a_function id type by_name mark) k h =
    let parts = and_parts (is_possible a type) (is_function (form_of_type type)) h in
    and_from (is_possible b type) (is_function (form_of_type type)) (k.possible type parts.0) parts.1
meaning_kept a b (a_target pointer) k h =
    let parts = and_parts (is_typed_value a pointer) (is_function_pointer (form_of pointer)) h in
    and_from (is_typed_value b pointer) (is_function_pointer (form_of pointer)) (value_kept a b pointer k parts.0) parts.1

-- ---- the parameters of a function

abbrev with_parameters : Types → CType
with_parameters ps = typed (Function int_type ps false) no_quals

parameters_possible : (structs : List Structure) (ps : Types) → are_possible structs ps ≡ true → is_possible structs (with_parameters ps) ≡ true
parameters_possible structs ps h = and_from (are_possible structs ps) (has_types ps || true) h (or_right (has_types ps) true refl)

pub possible_parameters : (structs : List Structure) (ps : Types) (r : CType) (v : Bool) → is_possible structs (typed (Function r ps v) no_quals) ≡ true → are_possible structs ps ≡ true
possible_parameters structs ps r v h =
    let possible = is_possible structs r in
    let value = is_value_form (form_of_type r) in
    (and_parts (possible && value) (are_possible structs ps) (and_parts (possible && value && are_possible structs ps) (has_types ps || not v) h).0).1

pub parameters_kept : (a b : List Structure) (ps : Types) → TypesKept a b → are_possible a ps ≡ true → are_possible b ps ≡ true
parameters_kept a b ps k h = possible_parameters b ps int_type false (k.possible (with_parameters ps) (parameters_possible a ps h))
