-- Sums, differences, comparisons and elements with pointers (ISO/IEC 9899:2024, 6.5.3.2, 6.5.7, 6.5.9, 6.5.10).
use Rattle.std.specs.Prelude.{Bool, ◌&&◌, ◌||◌, not, if◌then◌else◌, List, Option, None, Result, Ok}
use Rattle.cake_base.specs.declared.places.Place.{Place}
use Rattle.cake_base.specs.declared.rules.Fault.{Fault}
use Rattle.model_types.specs.declared.numbers.BinOp.{BinOp}
use Rattle.model_types.specs.declared.numbers.BinOp.TheVariants.{Add, Sub}
use Rattle.model_types.specs.declared.marks.Mark.{Mark}
use Rattle.model_types.specs.Types.{Form}
use Rattle.model_types.specs.Structures.{Structure}
use Rattle.model_core.specs.CoreTypes.{is_pointer, type_of}
use Rattle.model_core.specs.SameTypes.{is_integer, is_null_constant, is_void_pointer}
use Rattle.model_core.specs.TypedParts.{is_object_pointer, alike_pointers, takes}
use Rattle.model_core.specs.TypedExpr.{form_of}
use Rattle.model_core.specs.TypedScope.{can_move}
use Rattle.model_core.specs.Core as unit
use Rattle.model_checking.specs.State.{unless}
use Rattle.model_checking.specs.Meanings.{Meaning, a_place, a_value, Operand}
use Rattle.model_checking.specs.Faults.{wants, or_fault}
use Rattle.model_checking.specs.MadeCore.{are_integers, in_common_type, operand_form, converted, used_fault}

-- a pointer to a complete object
abbrev pub points_to_object : List Structure → Form → Bool
points_to_object structs form = is_object_pointer form && can_move structs form

-- C12: a pointer that is moved points to a complete object
abbrev pub moved_fault : List Structure → Operand → Option Fault
moved_fault structs o = if is_pointer (operand_form o) then wants (points_to_object structs (operand_form o)) o.first 12 else None

-- a pointer and an integer
abbrev pub are_moved : (pointer count : Form) → Bool
are_moved f g = is_pointer f && is_integer g

-- ---- `+` and `-`

-- C09: what may be added, and what subtracted
abbrev pub may_be_added : BinOp → Form → Form → Bool
may_be_added Add f g = are_integers f g || are_moved f g || are_moved g f
may_be_added Sub f g = are_integers f g || are_moved f g || is_pointer f && is_pointer g
may_be_added op f g = are_integers f g

-- C19: two pointers whose difference is taken are to compatible types, their qualifiers aside
abbrev pub may_be_apart : (a b : unit.Expr) → Bool
may_be_apart a b =
    not (is_pointer (form_of a) && is_pointer (form_of b)) || alike_pointers (form_of a) (form_of b) || is_null_constant a || is_null_constant b

-- what a sum or a difference breaks, in the order of the places, but for the types of the operands
abbrev pub sum_fault : List Structure → (at : Place) → (left right : Operand) → Option Fault
sum_fault structs at a b =
    or_fault (moved_fault structs a) (or_fault (wants (may_be_apart a.value b.value) at 19) (moved_fault structs b))

-- integers in their common type; a pointer and an integer as they are
abbrev pub added : BinOp → Mark → (a b : unit.Expr) → unit.Expr
added op mark a b = if are_integers (form_of a) (form_of b) then in_common_type op mark a b else unit.Binary op a b mark

abbrev pub sum : List Structure → BinOp → Mark → (left right : Operand) → Result Meaning Fault
sum structs op mark a b =
    unless (wants (may_be_added op (operand_form a) (operand_form b)) mark.at 9)
    (unless (sum_fault structs mark.at a b) (Ok (a_value (added op mark a.value b.value))))

-- ---- comparisons

-- a null pointer constant becomes a pointer of the type of the other operand
abbrev pub beside_pointer : (other e : unit.Expr) → unit.Expr
beside_pointer other e = if is_pointer (form_of other) && is_null_constant e then converted (type_of other) e else e

-- and a pointer becomes one to void where the other operand is one
abbrev pub beside_void : (other e : unit.Expr) → unit.Expr
beside_void other e = if is_void_pointer (form_of other) && not (is_void_pointer (form_of e)) then converted (type_of other) e else e

abbrev pub is_pointer_or_null : unit.Expr → Bool
is_pointer_or_null e = is_pointer (form_of e) || is_null_constant e

-- C09: two integers, or pointers and null pointer constants
abbrev pub may_be_compared : (a b : unit.Expr) → Bool
may_be_compared a b = are_integers (form_of a) (form_of b) || is_pointer_or_null a && is_pointer_or_null b

-- C19: pointers that agree, and for an order are to objects
abbrev pub comparison_of_pointers : BinOp → Mark → (a b : unit.Expr) → Result Meaning Fault
comparison_of_pointers op mark a b =
    unless (wants (takes op (form_of a) (form_of b)) mark.at 19) (Ok (a_value (unit.Binary op (beside_void b a) (beside_void a b) mark)))

abbrev pub comparison : BinOp → Mark → (left right : Operand) → Result Meaning Fault
comparison op mark a b =
    unless (wants (may_be_compared a.value b.value) mark.at 9)
    (if are_integers (operand_form a) (operand_form b) then Ok (a_value (in_common_type op mark a.value b.value))
    else comparison_of_pointers op mark (beside_pointer b.value a.value) (beside_pointer a.value b.value))

-- ---- `[]`: C21 of the left operand; C09 where they aren't a pointer and an integer; C12 of the pointer

abbrev pub element_place : Mark → (a b : unit.Expr) → Meaning
element_place mark a b = a_place (unit.Index (is_pointer (form_of b)) a b mark) None

abbrev pub index : List Structure → Mark → (array index : Operand) → Result Meaning Fault
index structs mark a b =
    unless (used_fault structs a)
    (unless (wants (are_moved (operand_form a) (operand_form b) || are_moved (operand_form b) (operand_form a)) mark.at 9)
    (unless (or_fault (moved_fault structs a) (moved_fault structs b)) (Ok (element_place mark a.value b.value))))
