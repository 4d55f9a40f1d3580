-- What the operands of `&` and of the comma are, whatever else holds of them (ISO/IEC 9899:2024, 6.3.3).
use Rattle.std.specs.Prelude.{Bool, true, not}
use Rattle.model_core.specs.TypedParts.{is_array, is_function}
use Rattle.model_core.specs.TypedExpr.{object_form}
use Rattle.model_core.specs.Core as unit
use Rattle.model_checking.specs.Meanings.{Meaning, a_place, a_value, a_function, a_target}

-- what is designated as an object isn't of a function type
abbrev pub is_of_object : Meaning → Bool
is_of_object (a_place object known) = not (is_function (object_form object))
is_of_object (a_value value) = true
is_of_object (a_function id type by_name mark) = true
is_of_object (a_target pointer) = true

-- an array isn't loaded, but becomes the address of its first element
abbrev pub loads_no_array : unit.Expr → Bool
loads_no_array (unit.Load object mark) = not (is_array (object_form object))
loads_no_array e = true
