-- What casts, `sizeof` and `alignof` break, and what the types of literals do (ISO/IEC 9899:2024, 6.5.3.6, 6.5.4.5, 6.5.5).
use Rattle.std.specs.Prelude.{Bool, true, false, ◌&&◌, ◌||◌, not, List, None}
use Rattle.cake_base.specs.declared.places.Place.{Place}
use Rattle.model_types.specs.declared.numbers.Basic.TheVariants as basic
use Rattle.model_types.specs.Types.{CType, Form, Void, Integer, Enum, Pointer, Array, Function, form_of_type}
use Rattle.model_types.specs.Structures.{Structure}
use Rattle.model_types.specs.Layout.{is_complete}
use Rattle.model_core.specs.CoreTypes.{is_void}
use Rattle.model_core.specs.SameTypes.{is_integer, is_null_constant}
use Rattle.model_core.specs.TypedParts.{is_array, is_function, is_struct, is_scalar, is_object_pointer, is_function_pointer}
use Rattle.model_core.specs.TypedExpr.{form_of}
use Rattle.model_core.specs.Core as unit
use Rattle.model_checking.specs.Meanings.{Operand}
use Rattle.model_constraints.specs.Pairs.{Pairs, Nothing, At, Beside}
use Rattle.model_constraints.specs.BrokenValues.{broken_reading}
use Rattle.model_constraints.specs.BrokenCalls.{are_all_complete}

-- to void; integers to integers; null pointer constants to pointers, pointers to objects or to functions to such;
-- pointers to `bool`
abbrev pub may_be_cast : (to : Form) → unit.Expr → Bool
may_be_cast Void e = true
may_be_cast (Integer basic.Bool) e = is_scalar (form_of e)
may_be_cast (Integer number) e = is_integer (form_of e)
may_be_cast (Enum number order) e = is_integer (form_of e)
may_be_cast (Pointer type) e =
    is_null_constant e || is_object_pointer (form_of e) && is_object_pointer (Pointer type)
    || is_function_pointer (form_of e) && is_function_pointer (Pointer type)
may_be_cast form e = false

-- C18 at the `(`, whatever the operand is
abbrev pub broken_target : (at : Place) → (to : CType) → Pairs
broken_target at to = At at 18 (is_array (form_of_type to) || is_function (form_of_type to) || is_struct (form_of_type to))

-- C18 at the `(`; the operand may be void
abbrev pub broken_cast : List Structure → (at : Place) → (to : CType) → Operand → Pairs
broken_cast structs at to o = Beside (At at 18 (not (may_be_cast (form_of_type to) o.value))) (broken_reading structs o)

-- `sizeof` and `alignof`: C22
abbrev pub broken_measure : List Structure → (first : Place) → CType → Pairs
broken_measure structs first type = At first 22 (not (is_complete structs type))

-- ---- the types of literals

abbrev pub awaits_length : Form → Bool
awaits_length (Array type None) = true
awaits_length form = false

-- a compound literal: C22, where its type is neither complete nor an array that gets its length from the braces
abbrev pub broken_literal_type : List Structure → (first : Place) → CType → Pairs
broken_literal_type structs first type = At first 22 (not (is_complete structs type || awaits_length (form_of_type type)))

-- a function that has a body: C37 and C38 at a place, where a parameter isn't complete or it is variadic; C22 at another,
-- where its result is neither void nor complete
abbrev pub broken_definition_form : List Structure → (at first : Place) → Form → Pairs
broken_definition_form structs at first (Function result parameters is_variadic) =
    Beside (At at 37 (not (are_all_complete structs parameters)))
    (Beside (At at 38 is_variadic) (At first 22 (not (is_void result) && not (is_complete structs result))))
broken_definition_form structs at first form = Nothing
