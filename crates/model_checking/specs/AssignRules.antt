-- Assignments (ISO/IEC 9899:2024, 6.5.17).
use Rattle.std.specs.Prelude.{Bool, ◌&&◌, not, if◌then◌else◌, List, Option, Result, Ok, Err}
use Rattle.cake_base.specs.declared.places.Place.{Place}
use Rattle.cake_base.specs.declared.rules.Fault.{Fault}
use Rattle.model_types.specs.declared.numbers.BinOp.{BinOp}
use Rattle.model_types.specs.declared.marks.Mark.{Mark}
use Rattle.model_types.specs.Types.{CType}
use Rattle.model_types.specs.Structures.{Structure}
use Rattle.model_types.specs.Conversions.{is_shift, is_comparison}
use Rattle.model_core.specs.CoreTypes.{unqualified, object_type, is_pointer}
use Rattle.model_core.specs.TypedExpr.{object_form}
use Rattle.model_core.specs.Core as unit
use Rattle.model_checking.specs.State.{unless}
use Rattle.model_checking.specs.Meanings.{Meaning, Operand}
use Rattle.model_checking.specs.Faults.{wants, or_fault}
use Rattle.model_checking.specs.MadeCore.{meaning_type, operand, operand_form, value_of, converted, promoted_type, promoted_value, common_type}
use Rattle.model_checking.specs.Conversion.{passed}
use Rattle.model_checking.specs.UnaryRules.{is_modifiable, of_object}
use Rattle.model_checking.specs.PointerRules.{may_be_added, may_be_apart, moved_fault}

-- ---- `=`: C10 at the operator; then C16 and C17 of the value

abbrev pub assign_left : List Structure → Mark → Meaning → Option Fault
assign_left structs mark left = wants (is_modifiable structs left) mark.at 10

abbrev pub assigned : Mark → Meaning → Result unit.Expr Fault → Result Meaning Fault
assigned mark left (Ok value) = of_object mark.at left (λ object. unit.Assign unit.Plain object value mark)
assigned mark left (Err fault) = Err fault

abbrev pub assign : List Structure → Mark → Meaning → (right : Operand) → Result Meaning Fault
assign structs mark left right =
    unless (assign_left structs mark left) (assigned mark left (passed structs right.first (meaning_type left) right.value))

-- ---- `op=`

-- C09: the operands are such as the operator takes
abbrev pub may_be_assigned_by : BinOp → (left right : Operand) → Bool
may_be_assigned_by op a b = not (is_comparison op) && may_be_added op (operand_form a) (operand_form b)

-- C12 of the left operand; at the operator C10 and C19; C12 of the right one; C16 where that is a pointer, which neither an
-- integer nor a pointer can get
abbrev pub assign_by_fault : List Structure → Mark → Meaning → (left right : Operand) → Option Fault
assign_by_fault structs mark m a b =
    or_fault (moved_fault structs a) (or_fault (assign_left structs mark m) (or_fault (wants (may_be_apart a.value b.value) mark.at 19)
    (or_fault (moved_fault structs b) (wants (not (is_pointer (operand_form b))) b.first 16))))

-- the type in which the operation is done, and the right operand in it
abbrev pub done_type : BinOp → (left right : unit.Expr) → CType
done_type op a b = if is_shift op then promoted_type a else common_type a b

abbrev pub done_value : BinOp → (left right : unit.Expr) → unit.Expr
done_value op a b = if is_shift op then promoted_value b else converted (common_type a b) b

-- a pointer is moved in its own type by an integer as it is
abbrev pub assigned_by : BinOp → Mark → (left right : unit.Expr) → unit.Lvalue → unit.Expr
assigned_by op mark a b object =
    if is_pointer (object_form object) then unit.Assign (unit.Compound op (unqualified (object_type object))) object b mark
    else unit.Assign (unit.Compound op (done_type op a b)) object (done_value op a b) mark

abbrev pub assign_by : List Structure → BinOp → Mark → (first : Place) → Meaning → (right : Operand) → Result Meaning Fault
assign_by structs op mark first left right =
    unless (wants (may_be_assigned_by op (operand first left) right) mark.at 9)
    (unless (assign_by_fault structs mark left (operand first left) right)
    (of_object mark.at left (λ object. assigned_by op mark (value_of left) right.value object)))
