-- Binary operators, `&&`, `||` and `[]` with both operands.
use Rattle.std.proofs.Common.{◌≡◌, Bool, true, false, ◌&&◌, not, List, arith}
use Rattle.cake_base.specs.declared.places.Place.{Place}
use Rattle.model_types.specs.declared.numbers.BinOp.{BinOp}
use Rattle.model_types.specs.declared.numbers.BinOp.TheVariants as op
use Rattle.model_types.specs.declared.operators.LogicOp.{LogicOp}
use Rattle.model_types.specs.declared.marks.Mark.{Mark}
use Rattle.model_types.specs.Structures.{Structure}
use Rattle.model_core.specs.TypedParts.{is_scalar, alike_pointers}
use Rattle.model_core.specs.TypedExpr.{form_of}
use Rattle.model_core.specs.Core as unit
use Rattle.model_checking.specs.MadeCore.{used_fault, promoted_value, in_common_type}
use Rattle.model_checking.specs.Meanings.{a_value, Operand}
use Rattle.model_checking.specs.BinaryRules.{operation, binary, logic}
use Rattle.model_constraints.specs.Pairs.{At, Beside}
use Rattle.model_constraints.specs.BrokenValues.{broken_use}
use Rattle.model_constraints.specs.BrokenPointers.{broken_move, broken_difference, are_pointers, is_one_null, compares_pointers, agree, broken_comparison}
use Rattle.model_constraints.specs.BrokenOperators.{takes_operands, takes_summands, takes_difference, broken_sum, broken_taken, broken_binary, broken_logic}
use Rattle.first_broken_laws.specs.FirstNamed.{Answers, Precedes}
use Rattle.first_broken_laws.proofs.PairLaws.{StandBehind, stand_nothing, stand_at, stand_beside, stand_unbroken, fault_unless}
use Rattle.first_broken_laws.proofs.Operands.{use_named, use_stands, before_use, move_stands, no_pointer_unmoved}
use Rattle.first_broken_laws.proofs.BinaryLaws.{integers_first, addition_first, subtraction_first, logic_first, no_scalar_no_pointer}
use Rattle.first_broken_laws.proofs.ComparisonLaws.{comparison_first, takes_order, takes_equal}

pub operation_first : (structs : List Structure) (o : BinOp) (mark : Mark) (a b : Operand) → Precedes a.first mark.at → Precedes mark.at b.first →
    Answers (broken_binary structs o mark.at a b) (operation structs o mark a b)
operation_first structs op.Mul mark a b before behind = integers_first structs mark a b (a_value (in_common_type op.Mul mark a.value b.value)) behind
operation_first structs op.Div mark a b before behind = integers_first structs mark a b (a_value (in_common_type op.Div mark a.value b.value)) behind
operation_first structs op.Rem mark a b before behind = integers_first structs mark a b (a_value (in_common_type op.Rem mark a.value b.value)) behind
operation_first structs op.Add mark a b before behind = addition_first structs mark a b before behind
operation_first structs op.Sub mark a b before behind = subtraction_first structs mark a b before behind
operation_first structs op.ShiftLeft mark a b before behind =
    integers_first structs mark a b (a_value (unit.Binary op.ShiftLeft (promoted_value a.value) (promoted_value b.value) mark)) behind
operation_first structs op.ShiftRight mark a b before behind =
    integers_first structs mark a b (a_value (unit.Binary op.ShiftRight (promoted_value a.value) (promoted_value b.value) mark)) behind
operation_first structs op.Less mark a b before behind = comparison_first structs op.Less true mark a b takes_order behind
operation_first structs op.Greater mark a b before behind = comparison_first structs op.Greater true mark a b takes_order behind
operation_first structs op.LessEqual mark a b before behind = comparison_first structs op.LessEqual true mark a b takes_order behind
operation_first structs op.GreaterEqual mark a b before behind = comparison_first structs op.GreaterEqual true mark a b takes_order behind
operation_first structs op.Equal mark a b before behind = comparison_first structs op.Equal false mark a b takes_equal behind
operation_first structs op.NotEqual mark a b before behind = comparison_first structs op.NotEqual false mark a b takes_equal behind
operation_first structs op.BitAnd mark a b before behind = integers_first structs mark a b (a_value (in_common_type op.BitAnd mark a.value b.value)) behind
operation_first structs op.BitXor mark a b before behind = integers_first structs mark a b (a_value (in_common_type op.BitXor mark a.value b.value)) behind
operation_first structs op.BitOr mark a b before behind = integers_first structs mark a b (a_value (in_common_type op.BitOr mark a.value b.value)) behind

-- ---- behind a left operand that is no scalar

both_before : (a b c : Place) → Precedes a b → Precedes b c → Precedes a c
both_before a b c h k = omega (arith, h, k)

sum_stands : (structs : List Structure) (at : Place) (t : Bool) (a b : Operand) → is_scalar (form_of a.value) ≡ false → Precedes a.first at → Precedes at b.first →
    StandBehind a.first (broken_sum structs at t a b)
sum_stands structs at t a b n before behind =
    let c = t && are_pointers a.value b.value && not (alike_pointers (form_of a.value) (form_of b.value)) && not (is_one_null a.value b.value) in
    stand_beside a.first (broken_move structs t a) (Beside (broken_difference at t a.value b.value) (broken_move structs t b))
    (stand_unbroken a.first (broken_move structs t a) (no_pointer_unmoved structs t a (no_scalar_no_pointer (form_of a.value) n)))
    (stand_beside a.first (broken_difference at t a.value b.value) (broken_move structs t b) (stand_at a.first at 19 c (λ e. before))
    (move_stands structs a.first t b (both_before a.first at b.first before behind)))

comparison_stands : (first at : Place) (by_order : Bool) (a b : unit.Expr) → Precedes first at → StandBehind first (broken_comparison by_order at a b)
comparison_stands first at by_order a b before = stand_at first at 19 (compares_pointers a b && not (agree by_order a b)) (λ e. before)

taken_stands : (structs : List Structure) (o : BinOp) (at : Place) (a b : Operand) → is_scalar (form_of a.value) ≡ false → Precedes a.first at → Precedes at b.first →
    StandBehind a.first (broken_taken structs o at a b)
taken_stands structs op.Add at a b n before behind = sum_stands structs at (takes_summands a.value b.value) a b n before behind
taken_stands structs op.Sub at a b n before behind = sum_stands structs at (takes_difference a.value b.value) a b n before behind
taken_stands structs op.Less at a b n before behind = comparison_stands a.first at true a.value b.value before
taken_stands structs op.Greater at a b n before behind = comparison_stands a.first at true a.value b.value before
taken_stands structs op.LessEqual at a b n before behind = comparison_stands a.first at true a.value b.value before
taken_stands structs op.GreaterEqual at a b n before behind = comparison_stands a.first at true a.value b.value before
taken_stands structs op.Equal at a b n before behind = comparison_stands a.first at false a.value b.value before
taken_stands structs op.NotEqual at a b n before behind = comparison_stands a.first at false a.value b.value before
taken_stands structs o at a b n before behind = stand_nothing a.first

pub binary_first : (structs : List Structure) (o : BinOp) (mark : Mark) (a b : Operand) → Precedes a.first mark.at → Precedes mark.at b.first →
    Answers (Beside (broken_use structs a) (broken_binary structs o mark.at a b)) (binary structs o mark a b)
binary_first structs o mark a b before behind =
    fault_unless (broken_use structs a) (broken_binary structs o mark.at a b) (used_fault structs a) (operation structs o mark a b) (use_named structs a)
    (λ n. operation_first structs o mark a b before behind)
    (before_use structs a (broken_binary structs o mark.at a b) (λ n.
    stand_beside a.first (At mark.at 9 (not (takes_operands o a.value b.value))) (Beside (broken_taken structs o mark.at a b) (broken_use structs b))
    (stand_at a.first mark.at 9 (not (takes_operands o a.value b.value)) (λ e. before))
    (stand_beside a.first (broken_taken structs o mark.at a b) (broken_use structs b)
    (taken_stands structs o mark.at a b n before behind) (use_stands structs a.first b (both_before a.first mark.at b.first before behind)))))

pub logical_first : (structs : List Structure) (o : LogicOp) (mark : Mark) (a b : Operand) → Precedes a.first mark.at → Precedes mark.at b.first →
    Answers (Beside (broken_use structs a) (broken_logic structs mark.at a b)) (logic structs o mark a b)
logical_first structs o mark a b before behind = logic_first structs mark a b (a_value (unit.Logic o a.value b.value mark)) before behind
