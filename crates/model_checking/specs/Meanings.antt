-- What an expression is before its use asks for a value or a place (ISO/IEC 9899:2024, 6.3.3).
use Rattle.std.specs.Prelude.{ℕ, ℤ, Bool, Option}
use Rattle.cake_base.specs.declared.places.Place.{Place}
use Rattle.model_types.specs.declared.marks.Mark.{Mark}
use Rattle.model_types.specs.Types.{CType}
use Rattle.model_core.specs.Core as unit

-- an object, with its value where it is a `constexpr` one; a value; a function, and whether it is a bare name; or the
-- function that a pointer points to
pub data Meaning : Type 0 where
  a_place : (object : unit.Lvalue) (known : Option ℤ) → Meaning
  a_value : (value : unit.Expr) → Meaning
  a_function : (id : ℕ) (type : CType) (by_name : Bool) (mark : Mark) → Meaning
  a_target : (pointer : unit.Expr) → Meaning

-- an operand whose value is asked for, with its first token, a parenthesis round it counted
pub record Operand : Type 0 where
  pub value : unit.Expr
  pub first : Place
