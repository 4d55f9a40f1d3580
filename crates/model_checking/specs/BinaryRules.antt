-- Binary operators (ISO/IEC 9899:2024, 6.5.6 to 6.5.15).
use Rattle.std.specs.Prelude.{◌&&◌, List, Option, Result, Ok}
use Rattle.cake_base.specs.declared.rules.Fault.{Fault}
use Rattle.model_types.specs.declared.numbers.BinOp.{BinOp}
use Rattle.model_types.specs.declared.numbers.BinOp.TheVariants.{Mul, Div, Rem, Add, Sub, ShiftLeft, ShiftRight, Less, Greater, LessEqual, GreaterEqual, Equal, NotEqual, BitAnd, BitXor, BitOr}
use Rattle.model_types.specs.declared.operators.LogicOp.{LogicOp}
use Rattle.model_types.specs.declared.marks.Mark.{Mark}
use Rattle.model_types.specs.Structures.{Structure}
use Rattle.model_core.specs.TypedParts.{is_scalar}
use Rattle.model_core.specs.Core as unit
use Rattle.model_checking.specs.State.{unless}
use Rattle.model_checking.specs.Meanings.{Meaning, a_value, Operand}
use Rattle.model_checking.specs.Faults.{wants}
use Rattle.model_checking.specs.MadeCore.{operand_form, used_fault, promoted_value, are_integers, in_common_type}
use Rattle.model_checking.specs.PointerRules.{sum, comparison}

-- what the left operand breaks alone: C21
abbrev pub left_fault : List Structure → Operand → Option Fault
left_fault structs a = used_fault structs a

-- ---- operators of integers alone: C09

abbrev pub arithmetic : BinOp → Mark → (left right : Operand) → Result Meaning Fault
arithmetic op mark a b =
    unless (wants (are_integers (operand_form a) (operand_form b)) mark.at 9) (Ok (a_value (in_common_type op mark a.value b.value)))

-- each operand of a shift is promoted by itself
abbrev pub shift : BinOp → Mark → (left right : Operand) → Result Meaning Fault
shift op mark a b =
    unless (wants (are_integers (operand_form a) (operand_form b)) mark.at 9)
    (Ok (a_value (unit.Binary op (promoted_value a.value) (promoted_value b.value) mark)))

abbrev pub operation : List Structure → BinOp → Mark → (left right : Operand) → Result Meaning Fault
operation structs Mul mark a b = arithmetic Mul mark a b
operation structs Div mark a b = arithmetic Div mark a b
operation structs Rem mark a b = arithmetic Rem mark a b
operation structs Add mark a b = sum structs Add mark a b
operation structs Sub mark a b = sum structs Sub mark a b
operation structs ShiftLeft mark a b = shift ShiftLeft mark a b
operation structs ShiftRight mark a b = shift ShiftRight mark a b
operation structs Less mark a b = comparison Less mark a b
operation structs Greater mark a b = comparison Greater mark a b
operation structs LessEqual mark a b = comparison LessEqual mark a b
operation structs GreaterEqual mark a b = comparison GreaterEqual mark a b
operation structs Equal mark a b = comparison Equal mark a b
operation structs NotEqual mark a b = comparison NotEqual mark a b
operation structs BitAnd mark a b = arithmetic BitAnd mark a b
operation structs BitXor mark a b = arithmetic BitXor mark a b
operation structs BitOr mark a b = arithmetic BitOr mark a b

abbrev pub binary : List Structure → BinOp → Mark → (left right : Operand) → Result Meaning Fault
binary structs op mark a b = unless (left_fault structs a) (operation structs op mark a b)

-- ---- `&&` and `||`, whose operands stay as they are

abbrev pub logic : List Structure → LogicOp → Mark → (left right : Operand) → Result Meaning Fault
logic structs op mark a b =
    unless (left_fault structs a)
    (unless (wants (is_scalar (operand_form a) && is_scalar (operand_form b)) mark.at 9) (Ok (a_value (unit.Logic op a.value b.value mark))))
