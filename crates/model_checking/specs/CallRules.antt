-- Calls (ISO/IEC 9899:2024, 6.5.3.3).
use Rattle.std.specs.Prelude.{ℕ, zero, suc, Bool, true, false, if◌then◌else◌, List, Option, Result, Ok}
use Rattle.cake_base.specs.declared.places.Place.{Place}
use Rattle.cake_base.specs.declared.rules.Fault.{Fault}
use Rattle.model_types.specs.declared.marks.Mark.{Mark}
use Rattle.model_types.specs.Types.{Form, Function, Types, no_types, more_types, form_of_type}
use Rattle.model_types.specs.Structures.{Structure}
use Rattle.model_core.specs.CoreTypes.{pointee}
use Rattle.model_core.specs.SameTypes.{is_integer}
use Rattle.model_core.specs.TypedParts.{is_function_pointer}
use Rattle.model_core.specs.TypedScope.{call_is_usable}
use Rattle.model_core.specs.TypedExpr.{form_of}
use Rattle.model_core.specs.Core as unit
use Rattle.model_checking.specs.State.{unless}
use Rattle.model_checking.specs.Meanings.{Meaning, a_value, Operand}
use Rattle.model_checking.specs.Faults.{wants, or_fault}
use Rattle.model_checking.specs.Conversion.{passed}
use Rattle.model_checking.specs.MadeCore.{operand_form, used_fault, promoted_value}

-- the function type of what is called
abbrev pub called_form : Operand → Form
called_form function = form_of_type (pointee (operand_form function))

abbrev pub parameters_in : Form → Types
parameters_in (Function result parameters is_variadic) = parameters
parameters_in _ = no_types

abbrev pub parameters_of : Operand → Types
parameters_of function = parameters_in (called_form function)

abbrev pub is_variadic_in : Form → Bool
is_variadic_in (Function result parameters is_variadic) = is_variadic
is_variadic_in _ = false

-- as many arguments as parameters, or more where the function is variadic
abbrev pub is_count : Types → (is_variadic : Bool) → (count : ℕ) → Bool
is_count no_types is_variadic zero = true
is_count no_types is_variadic (suc count) = is_variadic
is_count (more_types type types) is_variadic zero = false
is_count (more_types type types) is_variadic (suc count) = is_count types is_variadic count

-- what doesn't need the arguments: at the first token C14, where no function is called, and C22, where a parameter or the
-- result isn't complete; at the `(` C15
abbrev pub call_fault : List Structure → (at : Place) → (function : Operand) → (count : ℕ) → Option Fault
call_fault structs at function count =
    or_fault (wants (is_function_pointer (operand_form function)) function.first 14)
    (or_fault (wants (call_is_usable structs (called_form function)) function.first 22)
    (wants (is_count (parameters_of function) (is_variadic_in (called_form function)) count) at 15))

-- an argument behind the parameters is promoted; C21 where it is void
abbrev pub promoted_argument : unit.Expr → unit.Expr
promoted_argument e = if is_integer (form_of e) then promoted_value e else e

-- an argument for the first of these parameters
abbrev pub argument : List Structure → Types → Operand → Result unit.Expr Fault
argument structs no_types o = unless (used_fault structs o) (Ok (promoted_argument o.value))
argument structs (more_types type types) o = passed structs o.first type o.value

-- the parameters of the arguments behind
abbrev pub behind : Types → Types
behind no_types = no_types
behind (more_types type types) = types

abbrev pub call : Mark → (function : Operand) → unit.Exprs → Meaning
call mark function arguments = a_value (unit.Call function.value arguments mark)
