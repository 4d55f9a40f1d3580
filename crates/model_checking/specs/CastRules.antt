-- Casts (ISO/IEC 9899:2024, 6.5.5).
use Rattle.std.specs.Prelude.{Bool, ◌&&◌, List, Result, Ok}
use Rattle.cake_base.specs.declared.rules.Fault.{Fault}
use Rattle.model_types.specs.declared.marks.Mark.{Mark}
use Rattle.model_types.specs.declared.marks.Origin.TheVariants.{Written}
use Rattle.model_types.specs.Types.{CType, form_of_type}
use Rattle.model_types.specs.Structures.{Structure}
use Rattle.model_core.specs.CoreTypes.{unqualified}
use Rattle.model_core.specs.SameTypes.{is_null_constant}
use Rattle.model_core.specs.TypedParts.{converts, origin_fits}
use Rattle.model_core.specs.TypedExpr.{form_of}
use Rattle.model_core.specs.Core as unit
use Rattle.model_checking.specs.State.{unless}
use Rattle.model_checking.specs.Meanings.{Meaning, a_value, Operand}
use Rattle.model_checking.specs.Faults.{wants}
use Rattle.model_checking.specs.MadeCore.{unread_fault}

-- C18: to void; integers to integers, null pointer constants to pointers, pointers to objects or functions to such, and
-- pointers to `bool`
abbrev pub may_be_cast : CType → unit.Expr → Bool
may_be_cast to e =
    converts (is_null_constant e) (form_of e) (form_of_type to) && origin_fits Written (is_null_constant e) (form_of e) (form_of_type to)

abbrev pub cast : List Structure → Mark → (type : CType) → Operand → Result Meaning Fault
cast structs mark type o =
    unless (wants (may_be_cast type o.value) mark.at 18)
    (unless (unread_fault structs o) (Ok (a_value (unit.Convert Written (unqualified type) o.value mark))))
