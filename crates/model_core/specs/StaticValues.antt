-- The values that objects of static storage may begin with (ISO/IEC 9899:2024, 6.6): integer constant
-- expressions, null pointers, and addresses at constant offsets through pointer casts.
use Rattle.std.specs.Prelude.{Bool, true, false, ◌&&◌, ◌||◌, is_some}
use Rattle.model_types.specs.declared.numbers.BinOp.TheVariants.{Add, Sub}
use Rattle.model_types.specs.Types.{form_of_type}
use Rattle.model_core.specs.CoreTypes.{is_pointer}
use Rattle.model_core.specs.SameTypes.{is_null_constant, integer_constant}
use Rattle.model_core.specs.Core as unit

abbrev pub is_integer_constant : unit.Expr → Bool
is_integer_constant e = is_some (integer_constant e)

-- a null pointer, through pointer casts
abbrev pub is_null_pointer : unit.Expr → Bool
is_null_pointer (unit.Constant value type mark) = is_pointer (form_of_type type)
is_null_pointer (unit.Convert origin type e mark) = is_pointer (form_of_type type) && (is_null_pointer e || is_null_constant e)
is_null_pointer _ = false

-- a null pointer, as the rules of ownership see what is given: a null pointer constant, or the value that `{}`
-- gives a pointer of any type
abbrev pub gives_null : unit.Expr → Bool
gives_null e = is_null_constant e || is_null_pointer e

abbrev mutual
  -- the address of a function, or of an object, at a constant offset; in a static object's values only
  -- objects of static storage are in scope
  pub is_address : unit.Expr → Bool
  is_address (unit.FunctionRef id type by_name mark) = true
  is_address (unit.Address origin object mark) = is_static_place object
  is_address (unit.Convert origin type e mark) = is_pointer (form_of_type type) && is_address e
  is_address (unit.Binary Add a b mark) = (is_address a && is_integer_constant b) || (is_integer_constant a && is_address b)
  is_address (unit.Binary Sub a b mark) = is_address a && is_integer_constant b
  is_address _ = false

  pub is_static_place : unit.Lvalue → Bool
  is_static_place (unit.Object id type mark) = true
  is_static_place (unit.Deref pointer mark) = is_address pointer
  is_static_place (unit.Index is_second a b mark) =
      (is_address a && is_integer_constant b) || (is_integer_constant a && is_address b)
  is_static_place (unit.Field structure rank type name mark) = is_static_place structure
  is_static_place (unit.Arrow pointer rank type name mark) = is_address pointer
  is_static_place (unit.Literal origin id type values mark) = false

abbrev pub are_constant : unit.Initials → Bool
are_constant unit.no_initials = true
are_constant (unit.more_initials path offset type e others) = (is_integer_constant e || is_null_pointer e || is_address e) && are_constant others
