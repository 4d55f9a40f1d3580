-- Constant expressions, and the values that objects of static storage may begin with (ISO/IEC 9899:2024, 6.6).
use Rattle.std.specs.Prelude.{ℕ, ℤ, Bool, true, false, ◌&&◌, ◌||◌, not, Option, Some, None, Result, Ok}
use Rattle.cake_base.specs.declared.places.Place.{Place}
use Rattle.cake_base.specs.declared.rules.Fault.{Fault}
use Rattle.model_types.specs.declared.numbers.BinOp.TheVariants.{Add, Sub}
use Rattle.model_types.specs.Types.{form_of_type}
use Rattle.model_core.specs.CoreTypes.{is_pointer}
use Rattle.model_core.specs.SameTypes.{is_built_of_constants, constant_value}
use Rattle.model_core.specs.StaticValues.{is_integer_constant, is_null_pointer, is_address}
use Rattle.model_core.specs.Core as unit
use Rattle.model_scopes.specs.Declarations.{Value}
use Rattle.model_scopes.specs.Scopes.{Declared, Scopes, with_id}
use Rattle.model_checking.specs.State.{unless, breaks}
use Rattle.model_checking.specs.Faults.{wants, or_fault}
use Rattle.model_checking.specs.MadeCore.{basic_in}

-- C24: an operation is undefined in a part that is evaluated
abbrev pub defined_value : (first : Place) → unit.Expr → Option ℤ → Result Value Fault
defined_value first e (Some value) = Ok (record { value = value; basic = basic_in e })
defined_value first e None = breaks first 24

-- the value of an integer constant expression; C23 where it isn't one
abbrev pub constant_of : (first : Place) → unit.Expr → Result Value Fault
constant_of first e = unless (wants (is_built_of_constants e) first 23) (defined_value first e (constant_value e))

-- ---- static objects

abbrev pub is_automatic_one : Option Declared → Bool
is_automatic_one None = false
is_automatic_one (Some d) = d.latest.automatic

-- an object of automatic storage has this id; those of strings aren't declared
abbrev pub is_automatic_in : Scopes → ℕ → Bool
is_automatic_in s id = is_automatic_one (with_id id s.declared)

abbrev mutual
  -- the address of a function, or of an object that isn't automatic, at an offset that is built of constants
  pub is_fixed : (is_automatic : ℕ → Bool) → unit.Expr → Bool
  is_fixed is_automatic (unit.FunctionRef id type by_name mark) = true
  is_fixed is_automatic (unit.Address origin object mark) = is_fixed_place is_automatic object
  is_fixed is_automatic (unit.Convert origin type e mark) = is_pointer (form_of_type type) && is_fixed is_automatic e
  is_fixed is_automatic (unit.Binary Add a b mark) =
      is_fixed is_automatic a && is_built_of_constants b || is_built_of_constants a && is_fixed is_automatic b
  is_fixed is_automatic (unit.Binary Sub a b mark) = is_fixed is_automatic a && is_built_of_constants b
  is_fixed is_automatic _ = false

  pub is_fixed_place : (is_automatic : ℕ → Bool) → unit.Lvalue → Bool
  is_fixed_place is_automatic (unit.Object id type mark) = not (is_automatic id)
  is_fixed_place is_automatic (unit.Deref pointer mark) = is_fixed is_automatic pointer
  is_fixed_place is_automatic (unit.Index is_second a b mark) =
      is_fixed is_automatic a && is_built_of_constants b || is_built_of_constants a && is_fixed is_automatic b
  is_fixed_place is_automatic (unit.Field structure rank type name mark) = is_fixed_place is_automatic structure
  is_fixed_place is_automatic (unit.Arrow pointer rank type name mark) = is_fixed is_automatic pointer
  is_fixed_place is_automatic (unit.Literal origin id type values mark) = false

-- C23: an integer constant expression, a null pointer, or such an address; C24: it is undefined
abbrev pub static_fault : (is_automatic : ℕ → Bool) → (first : Place) → unit.Expr → Option Fault
static_fault is_automatic first e =
    or_fault (wants (is_built_of_constants e || is_null_pointer e || is_fixed is_automatic e) first 23)
    (wants (is_integer_constant e || is_null_pointer e || is_address e) first 24)
