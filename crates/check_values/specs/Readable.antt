-- When what an expression is has a value that a core can hold.
use Rattle.std.specs.Prelude.{Bool, true, Some, None}
use Rattle.model_types.specs.Types.{form_of_type}
use Rattle.model_core.specs.TypedParts.{constant_fits, is_function}
use Rattle.model_core.specs.TypedExpr.{object_form}
use Rattle.model_checking.specs.Meanings.{Meaning, a_place, a_value, a_function, a_target}

-- a value that is known of an object is one of its type's, and a function is of the type of one
abbrev pub is_readable : Meaning → Bool
is_readable (a_place object None) = true
is_readable (a_place object (Some value)) = constant_fits value (object_form object)
is_readable (a_value value) = true
is_readable (a_function id type by_name mark) = is_function (form_of_type type)
is_readable (a_target pointer) = true
