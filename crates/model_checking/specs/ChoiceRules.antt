-- `?:` and the comma (ISO/IEC 9899:2024, 6.5.16, 6.5.18).
use Rattle.std.specs.Prelude.{Bool, ◌&&◌, ◌||◌, if◌then◌else◌, List, Option, Result, Ok}
use Rattle.cake_base.specs.declared.places.Place.{Place}
use Rattle.cake_base.specs.declared.rules.Fault.{Fault}
use Rattle.model_types.specs.declared.marks.Mark.{Mark}
use Rattle.model_types.specs.Types.{CType, Form, Void}
use Rattle.model_types.specs.Structures.{Structure}
use Rattle.model_core.specs.CoreTypes.{plain, unqualified, pointer_to, pointee, is_pointer, is_void, type_of}
use Rattle.model_core.specs.SameTypes.{is_null_constant, is_void_pointer, same_form}
use Rattle.model_core.specs.TypedParts.{is_scalar, is_struct, comparable}
use Rattle.model_core.specs.TypedExpr.{form_of}
use Rattle.model_core.specs.Core as unit
use Rattle.model_scopes.specs.CompositeTypes.{composite}
use Rattle.model_checking.specs.State.{unless}
use Rattle.model_checking.specs.Meanings.{Meaning, a_value, Operand}
use Rattle.model_checking.specs.Faults.{wants, or_fault}
use Rattle.model_checking.specs.Qualifiers.{quals_behind, joined_quals, qualified_by}
use Rattle.model_checking.specs.MadeCore.{operand_form, used_fault, unread_fault, converted, common_type, are_integers}
use Rattle.model_checking.specs.PointerRules.{is_pointer_or_null}

-- of the condition C21 at its first token, and C09 at the `?`
abbrev pub condition_fault : List Structure → (at : Place) → Operand → Option Fault
condition_fault structs at c = or_fault (used_fault structs c) (wants (is_scalar (operand_form c)) at 9)

-- what a branch breaks alone
abbrev pub branch_fault : List Structure → Operand → Option Fault
branch_fault structs branch = unread_fault structs branch

-- ---- branches that agree: integers, or pointers and null pointer constants, or void, or a structure twice

-- pointers to compatible types, their qualifiers aside, or one to void or a null pointer constant
abbrev pub pointers_agree : (a b : unit.Expr) → Bool
pointers_agree a b =
    (is_pointer (form_of a) || is_pointer (form_of b)) && is_pointer_or_null a && is_pointer_or_null b
    && (is_null_constant a || is_null_constant b || comparable (form_of a) (form_of b))

abbrev pub are_void_or_struct : (a b : unit.Expr) → Bool
are_void_or_struct a b =
    is_void (type_of a) && is_void (type_of b) || is_struct (form_of a) && same_form (form_of a) (form_of b)

-- C20
abbrev pub branches_agree : (a b : unit.Expr) → Bool
branches_agree a b = are_integers (form_of a) (form_of b) || pointers_agree a b || are_void_or_struct a b

-- ---- their common type

-- void, or the composite type of what two pointers point to
abbrev pub joined_pointee : Form → Form → CType
joined_pointee f g = if is_void_pointer f || is_void_pointer g then plain Void else composite (unqualified (pointee f)) (unqualified (pointee g))

-- a pointer to that, with the qualifiers of both
abbrev pub joined_pointer : Form → Form → CType
joined_pointer f g = pointer_to (qualified_by (joined_quals (quals_behind f) (quals_behind g)) (joined_pointee f g))

-- a null pointer constant takes the type of the other branch
abbrev pub pointers_type : (a b : unit.Expr) → CType
pointers_type a b =
    if is_null_constant a && is_pointer (form_of b) then type_of b
    else if is_null_constant b && is_pointer (form_of a) then type_of a
    else joined_pointer (form_of a) (form_of b)

abbrev pub branch_type : (a b : unit.Expr) → CType
branch_type a b =
    if are_integers (form_of a) (form_of b) then common_type a b
    else if are_void_or_struct a b then type_of a else pointers_type a b

abbrev pub choice : List Structure → Mark → (condition first second : Operand) → Result Meaning Fault
choice structs mark c a b =
    unless (condition_fault structs mark.at c)
    (unless (wants (branches_agree a.value b.value) mark.at 20)
    (unless (or_fault (branch_fault structs a) (branch_fault structs b))
    (Ok (a_value (unit.Choice c.value (converted (branch_type a.value b.value) a.value) (converted (branch_type a.value b.value) b.value) mark)))))

-- ---- the comma

abbrev pub comma_left : List Structure → Operand → Option Fault
comma_left structs a = unread_fault structs a

abbrev pub comma : List Structure → Mark → (first second : Operand) → Result Meaning Fault
comma structs mark a b = unless (or_fault (comma_left structs a) (unread_fault structs b)) (Ok (a_value (unit.Comma a.value b.value mark)))
