-- Kinds of operators, and rules of operators behind what a left operand breaks alone.
use Rattle.std.specs.Prelude.{Bool, true, false, ◌&&◌, ◌||◌, List, Result, Ok}
use Rattle.cake_base.specs.declared.rules.Fault.{Fault}
use Rattle.model_types.specs.declared.numbers.BinOp.{BinOp}
use Rattle.model_types.specs.declared.numbers.BinOp.TheVariants.{Add, Sub}
use Rattle.model_types.specs.declared.operators.LogicOp.{LogicOp}
use Rattle.model_types.specs.declared.operators.UnaryOp.{UnaryOp}
use Rattle.model_types.specs.declared.operators.UnaryOp.TheVariants.{Minus, Complement, Not}
use Rattle.model_types.specs.declared.marks.Mark.{Mark}
use Rattle.model_types.specs.Structures.{Structure}
use Rattle.model_core.specs.TypedParts.{is_scalar}
use Rattle.model_core.specs.Core as unit
use Rattle.model_checking.specs.State.{unless}
use Rattle.model_checking.specs.Meanings.{Meaning, a_value, Operand}
use Rattle.model_checking.specs.Faults.{wants, or_fault}
use Rattle.model_checking.specs.MadeCore.{operand_form}
use Rattle.model_checking.specs.PointerRules.{are_moved, moved_fault, element_place}

-- `-` and `~`
abbrev pub is_inverse : UnaryOp → Bool
is_inverse Minus = true
is_inverse Complement = true
is_inverse Not = false

-- `+` and `-`
abbrev pub is_sum : BinOp → Bool
is_sum Add = true
is_sum Sub = true
is_sum op = false

abbrev pub scalar_logic : LogicOp → Mark → (left right : Operand) → Result Meaning Fault
scalar_logic op mark a b =
    unless (wants (is_scalar (operand_form a) && is_scalar (operand_form b)) mark.at 9) (Ok (a_value (unit.Logic op a.value b.value mark)))

abbrev pub element : List Structure → Mark → (array index : Operand) → Result Meaning Fault
element structs mark a b =
    unless (wants (are_moved (operand_form a) (operand_form b) || are_moved (operand_form b) (operand_form a)) mark.at 9)
    (unless (or_fault (moved_fault structs a) (moved_fault structs b)) (Ok (element_place mark a.value b.value)))
