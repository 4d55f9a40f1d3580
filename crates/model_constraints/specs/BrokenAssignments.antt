-- What assignments break (ISO/IEC 9899:2024, 6.5.17).
use Rattle.std.specs.Prelude.{Bool, ◌&&◌, not, List}
use Rattle.cake_base.specs.declared.places.Place.{Place}
use Rattle.model_types.specs.declared.numbers.BinOp.{BinOp}
use Rattle.model_types.specs.Conversions.{is_comparison}
use Rattle.model_types.specs.Structures.{Structure}
use Rattle.model_core.specs.CoreTypes.{is_pointer}
use Rattle.model_core.specs.TypedExpr.{form_of}
use Rattle.model_core.specs.Core as unit
use Rattle.model_checking.specs.MadeCore.{meaning_type}
use Rattle.model_checking.specs.Meanings.{Meaning, Operand}
use Rattle.model_constraints.specs.Pairs.{Pairs, At, Beside}
use Rattle.model_constraints.specs.BrokenValues.{broken_use, broken_giving}
use Rattle.model_constraints.specs.BrokenOperators.{may_be_changed, takes_operands, broken_sum}

-- C10 at the operator, which the left side breaks alone
abbrev pub broken_left_side : List Structure → (at : Place) → Meaning → Pairs
broken_left_side structs at m = At at 10 (not (may_be_changed structs m))

-- `=`: C16, C17, C21 and C22 of the value
abbrev pub broken_assigned : List Structure → Meaning → (right : Operand) → Pairs
broken_assigned structs m right = broken_giving structs (meaning_type m) right

-- `op=` takes the operands that the operator takes; none compares
abbrev pub takes_assigned : BinOp → (a b : unit.Expr) → Bool
takes_assigned op a b = not (is_comparison op) && takes_operands op a b

-- `op=`: C09 at the operator; where it takes the operands, C12 of a pointer that is moved, C19 of two, and C16 of a right
-- operand that is a pointer, which neither an integer nor a pointer can get
abbrev pub broken_assigned_by : List Structure → BinOp → (at : Place) → (left right : Operand) → Pairs
broken_assigned_by structs op at a b =
    Beside (At at 9 (not (takes_assigned op a.value b.value)))
    (Beside (broken_sum structs at (takes_assigned op a.value b.value) a b)
    (Beside (At b.first 16 (takes_assigned op a.value b.value && is_pointer (form_of b.value))) (broken_use structs b)))
