-- When what an expression is, before its use asks for a value or a place, is typed (ISO/IEC 9899:2024, 6.3.3), and when
-- an operand is.
use Rattle.std.specs.Prelude.{◌≡◌, ℤ, Bool, true, ◌&&◌, not, List, Option, Some, None, Result}
use Rattle.std.specs.Result.{IfOk}
use Rattle.cake_base.specs.declared.rules.Fault.{Fault}
use Rattle.model_types.specs.Types.{CType, Form, form_of_type}
use Rattle.model_types.specs.Structures.{Structure}
use Rattle.model_core.specs.CoreTypes.{type_of, object_type}
use Rattle.model_core.specs.TypedParts.{is_array, is_function, is_function_pointer, constant_fits}
use Rattle.model_core.specs.TypedExpr.{form_of, object_form, is_typed, is_typed_lvalue}
use Rattle.model_core.specs.PossibleTypes.{is_possible, is_value_form}
use Rattle.model_core.specs.Core as unit
use Rattle.model_checking.specs.Meanings.{Meaning, a_place, a_value, a_function, a_target}

-- a type that a value can have: there is none of arrays and functions
abbrev pub is_value_type : List Structure → CType → Bool
is_value_type structs type = is_possible structs type && is_value_form (form_of_type type)

-- a type that an object can have, complete or not
abbrev pub is_object_type : List Structure → CType → Bool
is_object_type structs type = is_possible structs type && not (is_function (form_of_type type))

abbrev pub is_typed_value : List Structure → unit.Expr → Bool
is_typed_value structs e = is_typed e && is_value_type structs (type_of e)

abbrev pub is_typed_object : List Structure → unit.Lvalue → Bool
is_typed_object structs object = is_typed_lvalue object && is_object_type structs (object_type object)

-- the value of a `constexpr` object is one of its type
abbrev pub known_fits : Option ℤ → Form → Bool
known_fits None form = true
known_fits (Some value) form = constant_fits value form

abbrev pub is_typed_meaning : List Structure → Meaning → Bool
is_typed_meaning structs (a_place object known) = is_typed_object structs object && known_fits known (object_form object)
is_typed_meaning structs (a_value value) = is_typed_value structs value
is_typed_meaning structs (a_function id type by_name mark) = is_possible structs type && is_function (form_of_type type)
is_typed_meaning structs (a_target pointer) = is_typed_value structs pointer && is_function_pointer (form_of pointer)

-- an operand whose value is asked for is typed, or else a void object, of which no value can be loaded
abbrev pub is_typed_operand : List Structure → unit.Expr → Bool
is_typed_operand structs (unit.Load object mark) = is_typed_object structs object && not (is_array (object_form object))
is_typed_operand structs e = is_typed_value structs e

-- a rule gives what is typed, where it breaks nothing
abbrev pub GivesTyped : List Structure → Result Meaning Fault → Type 0
GivesTyped structs r = IfOk r (λ m. is_typed_meaning structs m ≡ true)
