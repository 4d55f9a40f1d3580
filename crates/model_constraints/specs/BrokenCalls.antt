-- What calls break (ISO/IEC 9899:2024, 6.5.3.3).
use Rattle.std.specs.Prelude.{ℕ, zero, suc, Bool, true, false, ◌&&◌, ◌||◌, not, List}
use Rattle.cake_base.specs.declared.places.Place.{Place}
use Rattle.model_types.specs.Types.{Form, Function, Types, no_types, more_types, form_of_type}
use Rattle.model_types.specs.Structures.{Structure}
use Rattle.model_types.specs.Layout.{is_complete}
use Rattle.model_core.specs.CoreTypes.{is_void, pointee}
use Rattle.model_core.specs.TypedParts.{is_function_pointer}
use Rattle.model_core.specs.TypedExpr.{form_of}
use Rattle.model_checking.specs.Meanings.{Operand}
use Rattle.model_constraints.specs.Pairs.{Pairs, At, Beside}
use Rattle.model_constraints.specs.BrokenValues.{broken_use, broken_giving}

abbrev pub are_all_complete : List Structure → Types → Bool
are_all_complete structs no_types = true
are_all_complete structs (more_types type types) = is_complete structs type && are_all_complete structs types

-- parameters are complete, and the result is complete or void
abbrev pub may_be_called : List Structure → Form → Bool
may_be_called structs (Function result parameters is_variadic) =
    (is_void result || is_complete structs result) && are_all_complete structs parameters
may_be_called structs form = false

-- as many arguments as parameters, or more behind `...`
abbrev pub fits_count : Types → (is_variadic : Bool) → (count : ℕ) → Bool
fits_count no_types is_variadic zero = true
fits_count no_types is_variadic (suc count) = is_variadic
fits_count (more_types type types) is_variadic zero = false
fits_count (more_types type types) is_variadic (suc count) = fits_count types is_variadic count

abbrev pub takes_count : Form → (count : ℕ) → Bool
takes_count (Function result parameters is_variadic) count = fits_count parameters is_variadic count
takes_count form count = false

-- at the first token C14, where no function is called, and C22; C15 at the `(`
abbrev pub broken_called : List Structure → (at : Place) → (function : Operand) → (count : ℕ) → Pairs
broken_called structs at f count =
    Beside (At f.first 14 (not (is_function_pointer (form_of f.value))))
    (Beside (At f.first 22 (is_function_pointer (form_of f.value) && not (may_be_called structs (form_of_type (pointee (form_of f.value))))))
    (At at 15 (is_function_pointer (form_of f.value) && not (takes_count (form_of_type (pointee (form_of f.value))) count))))

-- an argument for the first of these parameters, or behind them
abbrev pub broken_argument : List Structure → Types → Operand → Pairs
broken_argument structs no_types o = broken_use structs o
broken_argument structs (more_types type types) o = broken_giving structs type o
