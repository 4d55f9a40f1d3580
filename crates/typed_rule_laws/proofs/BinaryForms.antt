-- What the rules of binary operators make is typed.
use Rattle.std.proofs.Common.{◌≡◌, refl, true, false, ◌&&◌, Ok, List}
use Rattle.std.proofs.lemmas.Bool.{and_parts, and_from}
use Rattle.model_types.specs.declared.numbers.BinOp.{BinOp}
use Rattle.model_types.specs.declared.numbers.BinOp.TheVariants as op
use Rattle.model_types.specs.declared.operators.LogicOp.{LogicOp}
use Rattle.model_types.specs.declared.marks.Mark.{Mark}
use Rattle.model_types.specs.Structures.{Structure}
use Rattle.model_types.specs.Conversions.{is_shift}
use Rattle.model_core.specs.SameTypes.{is_integer}
use Rattle.model_core.specs.TypedParts.{is_scalar, is_promoted, takes}
use Rattle.model_core.specs.TypedExpr.{form_of}
use Rattle.model_core.specs.Core as unit
use Rattle.model_checking.specs.State.{unless}
use Rattle.model_checking.specs.Meanings.{a_value, Operand}
use Rattle.model_checking.specs.Faults.{wants}
use Rattle.model_checking.specs.MadeCore.{are_integers, in_common_type, promoted_value}
use Rattle.model_checking.specs.BinaryRules.{left_fault, arithmetic, operation, binary, logic}
use Rattle.typed_rule_laws.specs.TypedMeanings.{is_typed_value, is_typed_operand, GivesTyped}
use Rattle.typed_rule_laws.proofs.Values.{value_parts}
use Rattle.typed_rule_laws.proofs.Converted.{common_is_typed, promoted_value_is_typed, promoted_value_promoted}
use Rattle.typed_rule_laws.proofs.Outcomes.{where_wanted, where_none, scalar_operand, integer_operand}
use Rattle.typed_rule_laws.proofs.UnaryForms.{IsTyped}
use Rattle.typed_rule_laws.proofs.PointerForms.{binary_from, addition_is_typed, subtraction_is_typed}
use Rattle.typed_rule_laws.proofs.ComparisonForms.{comparison_is_typed}

arithmetic_is_typed : (structs : List Structure) (o : BinOp) (mark : Mark) (a b : Operand) → is_shift o ≡ false → is_typed_operand structs a.value ≡ true →
    is_typed_operand structs b.value ≡ true → GivesTyped structs (arithmetic o mark a b)
arithmetic_is_typed structs o mark a b s ha hb =
    where_wanted (IsTyped structs) (are_integers (form_of a.value) (form_of b.value)) mark.at 9 (Ok (a_value (in_common_type o mark a.value b.value))) (λ w.
    let parts = and_parts (is_integer (form_of a.value)) (is_integer (form_of b.value)) w in
    common_is_typed structs o mark a.value b.value s (integer_operand structs a.value ha parts.0) (integer_operand structs b.value hb parts.1) parts.0 parts.1)

shifted : (structs : List Structure) (o : BinOp) (mark : Mark) (a b : Operand) → takes o (form_of (promoted_value a.value)) (form_of (promoted_value b.value)) ≡ true →
    is_typed_operand structs a.value ≡ true → is_typed_operand structs b.value ≡ true → are_integers (form_of a.value) (form_of b.value) ≡ true →
    is_typed_value structs (unit.Binary o (promoted_value a.value) (promoted_value b.value) mark) ≡ true
shifted structs o mark a b t ha hb w =
    let parts = and_parts (is_integer (form_of a.value)) (is_integer (form_of b.value)) w in
    binary_from structs o (promoted_value a.value) (promoted_value b.value) mark
    (promoted_value_is_typed structs a.value (integer_operand structs a.value ha parts.0) parts.0)
    (promoted_value_is_typed structs b.value (integer_operand structs b.value hb parts.1) parts.1) t

both_promoted : (a b : unit.Expr) → is_promoted (form_of (promoted_value a)) && is_promoted (form_of (promoted_value b)) ≡ true
both_promoted a b =
    and_from (is_promoted (form_of (promoted_value a))) (is_promoted (form_of (promoted_value b))) (promoted_value_promoted a) (promoted_value_promoted b)

operation_is_typed : (structs : List Structure) (o : BinOp) (mark : Mark) (a b : Operand) → is_typed_operand structs a.value ≡ true →
    is_typed_operand structs b.value ≡ true → GivesTyped structs (operation structs o mark a b)
operation_is_typed structs op.Mul mark a b ha hb = arithmetic_is_typed structs op.Mul mark a b refl ha hb
operation_is_typed structs op.Div mark a b ha hb = arithmetic_is_typed structs op.Div mark a b refl ha hb
operation_is_typed structs op.Rem mark a b ha hb = arithmetic_is_typed structs op.Rem mark a b refl ha hb
operation_is_typed structs op.Add mark a b ha hb = addition_is_typed structs mark a b ha hb
operation_is_typed structs op.Sub mark a b ha hb = subtraction_is_typed structs mark a b ha hb
operation_is_typed structs op.ShiftLeft mark a b ha hb =
    where_wanted (IsTyped structs) (are_integers (form_of a.value) (form_of b.value)) mark.at 9
    (Ok (a_value (unit.Binary op.ShiftLeft (promoted_value a.value) (promoted_value b.value) mark)))
    (shifted structs op.ShiftLeft mark a b (both_promoted a.value b.value) ha hb)
operation_is_typed structs op.ShiftRight mark a b ha hb =
    where_wanted (IsTyped structs) (are_integers (form_of a.value) (form_of b.value)) mark.at 9
    (Ok (a_value (unit.Binary op.ShiftRight (promoted_value a.value) (promoted_value b.value) mark)))
    (shifted structs op.ShiftRight mark a b (both_promoted a.value b.value) ha hb)
operation_is_typed structs op.Less mark a b ha hb = comparison_is_typed structs op.Less mark a b refl ha hb
operation_is_typed structs op.Greater mark a b ha hb = comparison_is_typed structs op.Greater mark a b refl ha hb
operation_is_typed structs op.LessEqual mark a b ha hb = comparison_is_typed structs op.LessEqual mark a b refl ha hb
operation_is_typed structs op.GreaterEqual mark a b ha hb = comparison_is_typed structs op.GreaterEqual mark a b refl ha hb
operation_is_typed structs op.Equal mark a b ha hb = comparison_is_typed structs op.Equal mark a b refl ha hb
operation_is_typed structs op.NotEqual mark a b ha hb = comparison_is_typed structs op.NotEqual mark a b refl ha hb
operation_is_typed structs op.BitAnd mark a b ha hb = arithmetic_is_typed structs op.BitAnd mark a b refl ha hb
operation_is_typed structs op.BitXor mark a b ha hb = arithmetic_is_typed structs op.BitXor mark a b refl ha hb
operation_is_typed structs op.BitOr mark a b ha hb = arithmetic_is_typed structs op.BitOr mark a b refl ha hb

pub binary_is_typed : (structs : List Structure) (o : BinOp) (mark : Mark) (a b : Operand) → is_typed_operand structs a.value ≡ true →
    is_typed_operand structs b.value ≡ true → GivesTyped structs (binary structs o mark a b)
binary_is_typed structs o mark a b ha hb =
    where_none (IsTyped structs) (left_fault structs a) (operation structs o mark a b) (λ n. operation_is_typed structs o mark a b ha hb)

pub logic_is_typed : (structs : List Structure) (o : LogicOp) (mark : Mark) (a b : Operand) → is_typed_operand structs a.value ≡ true →
    is_typed_operand structs b.value ≡ true → GivesTyped structs (logic structs o mark a b)
logic_is_typed structs o mark a b ha hb =
    let may = is_scalar (form_of a.value) && is_scalar (form_of b.value) in
    where_none (IsTyped structs) (left_fault structs a) (unless (wants may mark.at 9) (Ok (a_value (unit.Logic o a.value b.value mark)))) (λ n.
    where_wanted (IsTyped structs) may mark.at 9 (Ok (a_value (unit.Logic o a.value b.value mark))) (λ w.
    let parts = and_parts (is_scalar (form_of a.value)) (is_scalar (form_of b.value)) w in
    rw (
      (value_parts structs a.value (scalar_operand structs a.value ha parts.0)).typed_by,
      (value_parts structs b.value (scalar_operand structs b.value hb parts.1)).typed_by,
      parts.0,
      parts.1,
    ) refl))
