-- What may be given to an object of a type: an argument, an assigned, returned or initial value (ISO/IEC 9899:2024,
-- 6.5.3.3, 6.5.17.2, 6.7.11, 6.8.7.5).
use Rattle.std.specs.Prelude.{Bool, true, ◌&&◌, not, if◌then◌else◌, List, Option, Result, Ok}
use Rattle.cake_base.specs.declared.places.Place.{Place}
use Rattle.cake_base.specs.declared.rules.Fault.{Fault}
use Rattle.model_types.specs.Types.{CType, form_of_type}
use Rattle.model_types.specs.Structures.{Structure}
use Rattle.model_core.specs.SameTypes.{is_null_constant}
use Rattle.model_core.specs.TypedParts.{converts, implied_fits}
use Rattle.model_core.specs.TypedExpr.{form_of}
use Rattle.model_core.specs.Core as unit
use Rattle.model_checking.specs.State.{unless}
use Rattle.model_checking.specs.Faults.{wants, or_fault}
use Rattle.model_checking.specs.Qualifiers.{loses_behind}
use Rattle.model_checking.specs.MadeCore.{converted, used_fault}

-- C16: integers to integers, null pointer constants to pointers, pointers to pointers that agree with them or to `bool`,
-- and a structure to its own type
abbrev pub may_become : CType → unit.Expr → Bool
may_become to e =
    converts (is_null_constant e) (form_of e) (form_of_type to) && implied_fits (is_null_constant e) (form_of e) (form_of_type to)

-- C17: of a null pointer constant nothing is dropped
abbrev pub keeps_qualifiers : CType → unit.Expr → Bool
keeps_qualifiers to e = if is_null_constant e then true else not (loses_behind (form_of e) (form_of_type to))

abbrev pub passed_fault : List Structure → (first : Place) → (to : CType) → unit.Expr → Option Fault
passed_fault structs first to e =
    or_fault (wants (may_become to e) first 16)
    (or_fault (wants (keeps_qualifiers to e) first 17) (used_fault structs (record { value = e; first = first })))

-- the value in the type
abbrev pub passed : List Structure → (first : Place) → (to : CType) → unit.Expr → Result unit.Expr Fault
passed structs first to e = unless (passed_fault structs first to e) (Ok (converted to e))
