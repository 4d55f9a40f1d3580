-- What the rules of operators make stands where their operands do.
use Rattle.std.proofs.Common.{◌≡◌, ◌∙◌, ap, sym, refl, Bool, true, false, ◌&&◌, ◌||◌, not, if◌then◌else◌, Option, None, Result, Ok, List, ℤ, inl, inr}
use Rattle.std.proofs.lemmas.Bool.{and_parts, and_from, or_cases}
use Rattle.cake_base.specs.declared.places.Place.{Place}
use Rattle.cake_base.specs.declared.rules.Fault.{Fault}
use Rattle.model_types.specs.declared.numbers.BinOp.{BinOp}
use Rattle.model_types.specs.declared.numbers.BinOp.TheVariants as op
use Rattle.model_types.specs.declared.operators.UnaryOp.TheVariants as one
use Rattle.model_types.specs.declared.operators.LogicOp.{LogicOp}
use Rattle.model_types.specs.declared.operators.StepOp.{StepOp}
use Rattle.model_types.specs.declared.operators.StepSide.{StepSide}
use Rattle.model_types.specs.declared.marks.Mark.{Mark}
use Rattle.model_types.specs.declared.marks.Origin.TheVariants.{Written}
use Rattle.model_types.specs.Types.{Form}
use Rattle.model_types.specs.Structures.{Structure}
use Rattle.model_types.specs.Conversions.{is_comparison}
use Rattle.model_grammar.specs.declared.syntax.PrefixOp.{PrefixOp}
use Rattle.model_grammar.specs.declared.syntax.PrefixOp.TheVariants as prefix
use Rattle.model_core.specs.CoreTypes.{type_of, object_type, is_pointer, is_void}
use Rattle.model_core.specs.SameTypes.{is_integer, is_null_constant, is_void_pointer}
use Rattle.model_core.specs.TypedParts.{is_array, is_scalar, is_object_pointer, is_function_pointer, takes}
use Rattle.model_core.specs.TypedExpr.{form_of, object_form}
use Rattle.model_core.specs.TypedScope.{Scope, expr_stands, lvalue_stands, address_is_noted, can_move, moves_fit}
use Rattle.model_core.specs.Core as unit
use Rattle.model_checking.specs.State.{unless}
use Rattle.model_checking.specs.Meanings.{Meaning, a_place, a_value, a_function, a_target, Operand}
use Rattle.model_checking.specs.Faults.{wants, or_fault}
use Rattle.model_checking.specs.MadeCore.{operand, value_of, object_value, converted, promoted_value, are_integers, in_common_type, used_fault}
use Rattle.model_checking.specs.HeldValues.{is_held}
use Rattle.model_checking.specs.PointerRules.{points_to_object, moved_fault, are_moved, may_be_added, sum_fault, added, sum}
use Rattle.model_checking.specs.PointerRules.{beside_pointer, beside_void, is_pointer_or_null, may_be_compared, comparison_of_pointers, comparison, element_place, index}
use Rattle.model_checking.specs.UnaryRules.{address, indirection, unary, is_modifiable, of_object, step_fault, step_type, step}
use Rattle.model_checking.specs.BinaryRules.{left_fault, arithmetic, operation, binary, logic}
use Rattle.typed_rule_laws.specs.TypedMeanings.{is_typed_value, is_typed_meaning, is_typed_operand}
use Rattle.typed_rule_laws.specs.StandingMeanings.{meaning_stands, operand_stands, is_noted, GivesStanding}
use Rattle.typed_rule_laws.proofs.Values.{value_parts}
use Rattle.typed_rule_laws.proofs.Outcomes.{where_wanted, where_none, neither, wanted, integer_scalar, pointer_scalar}
use Rattle.typed_rule_laws.proofs.NullConstants.{null_is_scalar}
use Rattle.typed_rule_laws.proofs.UnaryForms.{function_pointer_pointer, object_pointer_pointer, modifiable, object_value_form, moved, step_parts}
use Rattle.typed_rule_laws.proofs.PointerForms.{sum_parts}
use Rattle.typed_rule_laws.proofs.ComparisonForms.{compared_typed, beside_pointer_is_typed}
use Rattle.typed_rule_laws.proofs.StandingValues.{value_stands, scalar_stands, integer_stands, pointer_stands, converted_stands}
use Rattle.typed_rule_laws.proofs.StandingValues.{promoted_stands, operation_stands, comparison_fits, common_stands, movable}

abbrev pub Stands : Scope → Meaning → Type 0
Stands s m = meaning_stands s m ≡ true

-- ---- `&` and `*`

address_stands : (s : Scope) (mark : Mark) (first : Place) (m : Meaning) → meaning_stands s m ≡ true → is_noted s prefix.Address m ≡ true → GivesStanding s (address mark first m)
address_stands s mark first (a_place object known) h n =
    where_wanted (Stands s) (not (is_held object) && not (is_void (object_type object))) first 11 (Ok (a_value (unit.Address Written object mark)))
    (λ w. and_from (lvalue_stands s object) (address_is_noted s Written object) h n)
address_stands s mark first (a_value value) h n = tt
address_stands s mark first (a_function id type by_name at) h n = h
address_stands s mark first (a_target pointer) h n = h

followed_by : (s : Scope) (mark : Mark) (value : unit.Expr) (first : Place) (b : Bool) → is_function_pointer (form_of value) ≡ b → operand_stands s value ≡ true →
    GivesStanding s (if b then Ok (a_target value) else unless (wants (points_to_object s.core.structs (form_of value)) first 12) (Ok (a_place (unit.Deref value mark) None)))
followed_by s mark value first true e h = pointer_stands s value h (function_pointer_pointer (form_of value) e)
followed_by s mark value first false e h =
    where_wanted (Stands s) (points_to_object s.core.structs (form_of value)) first 12 (Ok (a_place (unit.Deref value mark) None)) (λ w.
    let parts = and_parts (is_object_pointer (form_of value)) (can_move s.core.structs (form_of value)) w in
    and_from (expr_stands s value) (can_move s.core.structs (form_of value))
    (pointer_stands s value h (object_pointer_pointer (form_of value) parts.0)) parts.1)

indirection_stands : (s : Scope) (mark : Mark) (first : Place) (m : Meaning) → is_typed_meaning s.core.structs m ≡ true → meaning_stands s m ≡ true →
    GivesStanding s (indirection s.core.structs mark first m)
indirection_stands s mark first (a_place object known) t h =
    let value = value_of (a_place object known) in
    followed_by s mark value first (is_function_pointer (form_of value)) refl (value_stands s (a_place object known) t h)
indirection_stands s mark first (a_value value) t h =
    followed_by s mark value first (is_function_pointer (form_of value)) refl (value_stands s (a_value value) t h)
indirection_stands s mark first (a_function id type by_name at) t h = h
indirection_stands s mark first (a_target pointer) t h =
    followed_by s mark pointer first (is_function_pointer (form_of pointer)) refl (value_stands s (a_target pointer) t h)

pub unary_stands : (s : Scope) (o : PrefixOp) (mark : Mark) (first : Place) (m : Meaning) → is_typed_meaning s.core.structs m ≡ true → meaning_stands s m ≡ true →
    is_noted s o m ≡ true → GivesStanding s (unary s.core.structs o mark first m)
unary_stands s prefix.Address mark first m t h n = address_stands s mark first m h n
unary_stands s prefix.Indirection mark first m t h n = indirection_stands s mark first m t h
unary_stands s prefix.Plus mark first m t h n =
    where_wanted (Stands s) (is_integer (form_of (value_of m))) mark.at 9 (Ok (a_value (promoted_value (value_of m))))
    (λ w. promoted_stands s (value_of m) (integer_stands s (value_of m) (value_stands s m t h) w))
unary_stands s prefix.Minus mark first m t h n =
    where_wanted (Stands s) (is_integer (form_of (value_of m))) mark.at 9 (Ok (a_value (unit.Unary one.Minus (promoted_value (value_of m)) mark)))
    (λ w. promoted_stands s (value_of m) (integer_stands s (value_of m) (value_stands s m t h) w))
unary_stands s prefix.Complement mark first m t h n =
    where_wanted (Stands s) (is_integer (form_of (value_of m))) mark.at 9 (Ok (a_value (unit.Unary one.Complement (promoted_value (value_of m)) mark)))
    (λ w. promoted_stands s (value_of m) (integer_stands s (value_of m) (value_stands s m t h) w))
unary_stands s prefix.Not mark first m t h n =
    where_wanted (Stands s) (is_scalar (form_of (value_of m))) mark.at 9 (Ok (a_value (unit.Unary one.Not (value_of m) mark)))
    (λ w. scalar_stands s (value_of m) (value_stands s m t h) w)

-- ---- `++` and `--`

-- where a pointer that is moved breaks nothing, it can be moved
pub can_be_moved : (structs : List Structure) (o : Operand) → moved_fault structs o ≡ None → can_move structs (form_of o.value) ≡ true
can_be_moved structs o h =
    movable structs (form_of o.value) (λ p. (and_parts (is_object_pointer (form_of o.value)) (can_move structs (form_of o.value)) (moved structs o h p)).1)

pub object_can_move : (structs : List Structure) (first : Place) (object : unit.Lvalue) (known : Option ℤ) → is_array (object_form object) ≡ false →
    moved_fault structs (operand first (a_place object known)) ≡ None → can_move structs (object_form object) ≡ true
object_can_move structs first object known a h =
    ap (can_move structs) (sym (object_value_form object known a)) ∙ can_be_moved structs (operand first (a_place object known)) h

stepped : (s : Scope) (o : StepOp) (side : StepSide) (mark : Mark) (first : Place) (object : unit.Lvalue) (known : Option ℤ) → lvalue_stands s object ≡ true →
    step_fault s.core.structs side mark.at first (a_place object known) ≡ None → expr_stands s (unit.Step o side (step_type object) object mark) ≡ true
stepped s o side mark first object known h n =
    let structs = s.core.structs in
    let m = a_place object known in
    let parts = step_parts structs side mark.at first m n in
    let operator = neither (wants (is_scalar (form_of (object_value object known))) mark.at 9) (wants (is_modifiable structs m) mark.at 10) parts.operator in
    let changed = modifiable structs object known (wanted (is_modifiable structs m) mark.at 10 operator.second) in
    and_from (lvalue_stands s object) (can_move structs (object_form object)) h (object_can_move structs first object known changed.not_array parts.moves)

pub step_stands : (s : Scope) (o : StepOp) (side : StepSide) (mark : Mark) (first : Place) (m : Meaning) → meaning_stands s m ≡ true →
    GivesStanding s (step s.core.structs o side mark first m)
step_stands s o side mark first (a_place object known) h =
    where_none (Stands s) (step_fault s.core.structs side mark.at first (a_place object known)) (Ok (a_value (unit.Step o side (step_type object) object mark)))
    (λ n. stepped s o side mark first object known h n)
step_stands s o side mark first (a_value value) h =
    where_none (Stands s) (step_fault s.core.structs side mark.at first (a_value value))
    (of_object mark.at (a_value value) (λ object. unit.Step o side (step_type object) object mark)) (λ n. tt)
step_stands s o side mark first (a_function id type by_name at) h =
    where_none (Stands s) (step_fault s.core.structs side mark.at first (a_function id type by_name at))
    (of_object mark.at (a_function id type by_name at) (λ object. unit.Step o side (step_type object) object mark)) (λ n. tt)
step_stands s o side mark first (a_target pointer) h =
    where_none (Stands s) (step_fault s.core.structs side mark.at first (a_target pointer))
    (of_object mark.at (a_target pointer) (λ object. unit.Step o side (step_type object) object mark)) (λ n. tt)

-- ---- `+` and `-`

added_by : (s : Scope) (o : BinOp) (mark : Mark) (a b : unit.Expr) (integers : Bool) → expr_stands s a ≡ true → expr_stands s b ≡ true →
    moves_fit s.core.structs o (form_of a) (form_of b) ≡ true → expr_stands s (if integers then in_common_type o mark a b else unit.Binary o a b mark) ≡ true
added_by s o mark a b true ha hb m = common_stands s o mark a b ha hb
added_by s o mark a b false ha hb m = operation_stands s o a b mark ha hb m

both_move : (structs : List Structure) (a b : Operand) → moved_fault structs a ≡ None → moved_fault structs b ≡ None →
    can_move structs (form_of a.value) && can_move structs (form_of b.value) ≡ true
both_move structs a b ma mb =
    and_from (can_move structs (form_of a.value)) (can_move structs (form_of b.value)) (can_be_moved structs a ma) (can_be_moved structs b mb)

moved_scalars : (f g : Form) → are_moved f g ≡ true → (is_scalar f ≡ true) × (is_scalar g ≡ true)
moved_scalars f g h =
    let parts = and_parts (is_pointer f) (is_integer g) h in
    (pointer_scalar f parts.0, integer_scalar g parts.1)

integer_scalars : (f g : Form) → are_integers f g ≡ true → (is_scalar f ≡ true) × (is_scalar g ≡ true)
integer_scalars f g h =
    let parts = and_parts (is_integer f) (is_integer g) h in
    (integer_scalar f parts.0, integer_scalar g parts.1)

either_scalars : (f g : Form) → are_moved f g || are_moved g f ≡ true → (is_scalar f ≡ true) × (is_scalar g ≡ true)
either_scalars f g h = elim (or_cases (are_moved f g) (are_moved g f) h) [
  | inl moves ↦ moved_scalars f g moves
  | inr moves ↦ let both = moved_scalars g f moves in (both.1, both.0)
]

added_scalars : (f g : Form) → may_be_added op.Add f g ≡ true → (is_scalar f ≡ true) × (is_scalar g ≡ true)
added_scalars f g h = elim (or_cases (are_integers f g || are_moved f g) (are_moved g f) h) [
  | inl front ↦ elim (or_cases (are_integers f g) (are_moved f g) front) [
    | inl integers ↦ integer_scalars f g integers
    | inr moves ↦ moved_scalars f g moves
  ]
  | inr moves ↦ let both = moved_scalars g f moves in (both.1, both.0)
]

subtracted_scalars : (f g : Form) → may_be_added op.Sub f g ≡ true → (is_scalar f ≡ true) × (is_scalar g ≡ true)
subtracted_scalars f g h = elim (or_cases (are_integers f g || are_moved f g) (is_pointer f && is_pointer g) h) [
  | inl front ↦ elim (or_cases (are_integers f g) (are_moved f g) front) [
    | inl integers ↦ integer_scalars f g integers
    | inr moves ↦ moved_scalars f g moves
  ]
  | inr pointers ↦
      let parts = and_parts (is_pointer f) (is_pointer g) pointers in
      (pointer_scalar f parts.0, pointer_scalar g parts.1)
]

addition_stands : (s : Scope) (mark : Mark) (a b : Operand) → operand_stands s a.value ≡ true → operand_stands s b.value ≡ true →
    GivesStanding s (sum s.core.structs op.Add mark a b)
addition_stands s mark a b ha hb =
    let structs = s.core.structs in
    where_wanted (Stands s) (may_be_added op.Add (form_of a.value) (form_of b.value)) mark.at 9
    (unless (sum_fault structs mark.at a b) (Ok (a_value (added op.Add mark a.value b.value)))) (λ w.
    where_none (Stands s) (sum_fault structs mark.at a b) (Ok (a_value (added op.Add mark a.value b.value))) (λ n.
    let scalars = added_scalars (form_of a.value) (form_of b.value) w in
    let parts = sum_parts structs mark.at a b n in
    added_by s op.Add mark a.value b.value (are_integers (form_of a.value) (form_of b.value)) (scalar_stands s a.value ha scalars.0) (scalar_stands s b.value hb scalars.1)
    (both_move structs a b parts.left parts.right)))

subtraction_stands : (s : Scope) (mark : Mark) (a b : Operand) → operand_stands s a.value ≡ true → operand_stands s b.value ≡ true →
    GivesStanding s (sum s.core.structs op.Sub mark a b)
subtraction_stands s mark a b ha hb =
    let structs = s.core.structs in
    where_wanted (Stands s) (may_be_added op.Sub (form_of a.value) (form_of b.value)) mark.at 9
    (unless (sum_fault structs mark.at a b) (Ok (a_value (added op.Sub mark a.value b.value)))) (λ w.
    where_none (Stands s) (sum_fault structs mark.at a b) (Ok (a_value (added op.Sub mark a.value b.value))) (λ n.
    let scalars = subtracted_scalars (form_of a.value) (form_of b.value) w in
    let parts = sum_parts structs mark.at a b n in
    added_by s op.Sub mark a.value b.value (are_integers (form_of a.value) (form_of b.value)) (scalar_stands s a.value ha scalars.0) (scalar_stands s b.value hb scalars.1)
    (both_move structs a b parts.left parts.right)))

-- ---- comparisons

beside_by : (s : Scope) (other e : unit.Expr) (b : Bool) → is_typed_value s.core.structs other ≡ true → expr_stands s e ≡ true →
    expr_stands s (if b then converted (type_of other) e else e) ≡ true
beside_by s other e true t h = converted_stands s (type_of other) e (value_parts s.core.structs other t).possible h
beside_by s other e false t h = h

compared_stands : (s : Scope) (o : BinOp) (mark : Mark) (a b : unit.Expr) → is_comparison o ≡ true → is_typed_value s.core.structs a ≡ true →
    is_typed_value s.core.structs b ≡ true → expr_stands s a ≡ true → expr_stands s b ≡ true → GivesStanding s (comparison_of_pointers o mark a b)
compared_stands s o mark a b c ta tb ha hb =
    where_wanted (Stands s) (takes o (form_of a) (form_of b)) mark.at 19 (Ok (a_value (unit.Binary o (beside_void b a) (beside_void a b) mark))) (λ t.
    operation_stands s o (beside_void b a) (beside_void a b) mark
    (beside_by s b a (is_void_pointer (form_of b) && not (is_void_pointer (form_of a))) tb ha)
    (beside_by s a b (is_void_pointer (form_of a) && not (is_void_pointer (form_of b))) ta hb)
    (comparison_fits s.core.structs o (form_of (beside_void b a)) (form_of (beside_void a b)) c))

comparison_by : (s : Scope) (o : BinOp) (mark : Mark) (a b : unit.Expr) (integers : Bool) → is_comparison o ≡ true → is_typed_value s.core.structs a ≡ true →
    is_typed_value s.core.structs b ≡ true → expr_stands s a ≡ true → expr_stands s b ≡ true →
    GivesStanding s (if integers then Ok (a_value (in_common_type o mark a b)) else comparison_of_pointers o mark (beside_pointer b a) (beside_pointer a b))
comparison_by s o mark a b true c ta tb ha hb = common_stands s o mark a b ha hb
comparison_by s o mark a b false c ta tb ha hb =
    compared_stands s o mark (beside_pointer b a) (beside_pointer a b) c (beside_pointer_is_typed s.core.structs b a tb ta) (beside_pointer_is_typed s.core.structs a b ta tb)
    (beside_by s b a (is_pointer (form_of b) && is_null_constant a) tb ha) (beside_by s a b (is_pointer (form_of a) && is_null_constant b) ta hb)

pointer_or_null_scalar : (e : unit.Expr) → is_pointer_or_null e ≡ true → is_scalar (form_of e) ≡ true
pointer_or_null_scalar e h = elim (or_cases (is_pointer (form_of e)) (is_null_constant e) h) [
  | inl pointer ↦ pointer_scalar (form_of e) pointer
  | inr null ↦ null_is_scalar e null
]

compared_scalars : (a b : unit.Expr) → may_be_compared a b ≡ true → (is_scalar (form_of a) ≡ true) × (is_scalar (form_of b) ≡ true)
compared_scalars a b h = elim (or_cases (are_integers (form_of a) (form_of b)) (is_pointer_or_null a && is_pointer_or_null b) h) [
  | inl integers ↦ integer_scalars (form_of a) (form_of b) integers
  | inr pointers ↦
      let parts = and_parts (is_pointer_or_null a) (is_pointer_or_null b) pointers in
      (pointer_or_null_scalar a parts.0, pointer_or_null_scalar b parts.1)
]

comparison_stands : (s : Scope) (o : BinOp) (mark : Mark) (a b : Operand) → is_comparison o ≡ true → is_typed_operand s.core.structs a.value ≡ true →
    is_typed_operand s.core.structs b.value ≡ true → operand_stands s a.value ≡ true → operand_stands s b.value ≡ true → GivesStanding s (comparison o mark a b)
comparison_stands s o mark a b c ta tb ha hb =
    where_wanted (Stands s) (may_be_compared a.value b.value) mark.at 9
    (if are_integers (form_of a.value) (form_of b.value) then Ok (a_value (in_common_type o mark a.value b.value))
    else comparison_of_pointers o mark (beside_pointer b.value a.value) (beside_pointer a.value b.value)) (λ w.
    let typed = compared_typed s.core.structs a.value b.value ta tb w in
    let scalars = compared_scalars a.value b.value w in
    comparison_by s o mark a.value b.value (are_integers (form_of a.value) (form_of b.value)) c typed.0 typed.1
    (scalar_stands s a.value ha scalars.0) (scalar_stands s b.value hb scalars.1))

-- ---- all binary operators

arithmetic_stands : (s : Scope) (o : BinOp) (mark : Mark) (a b : Operand) → operand_stands s a.value ≡ true → operand_stands s b.value ≡ true →
    GivesStanding s (arithmetic o mark a b)
arithmetic_stands s o mark a b ha hb =
    where_wanted (Stands s) (are_integers (form_of a.value) (form_of b.value)) mark.at 9 (Ok (a_value (in_common_type o mark a.value b.value))) (λ w.
    let scalars = integer_scalars (form_of a.value) (form_of b.value) w in
    common_stands s o mark a.value b.value (scalar_stands s a.value ha scalars.0) (scalar_stands s b.value hb scalars.1))

shifted : (s : Scope) (o : BinOp) (mark : Mark) (a b : Operand) → moves_fit s.core.structs o (form_of (promoted_value a.value)) (form_of (promoted_value b.value)) ≡ true →
    operand_stands s a.value ≡ true → operand_stands s b.value ≡ true → are_integers (form_of a.value) (form_of b.value) ≡ true →
    expr_stands s (unit.Binary o (promoted_value a.value) (promoted_value b.value) mark) ≡ true
shifted s o mark a b m ha hb w =
    let scalars = integer_scalars (form_of a.value) (form_of b.value) w in
    operation_stands s o (promoted_value a.value) (promoted_value b.value) mark
    (promoted_stands s a.value (scalar_stands s a.value ha scalars.0)) (promoted_stands s b.value (scalar_stands s b.value hb scalars.1)) m

operation_of : (s : Scope) (o : BinOp) (mark : Mark) (a b : Operand) → is_typed_operand s.core.structs a.value ≡ true → is_typed_operand s.core.structs b.value ≡ true →
    operand_stands s a.value ≡ true → operand_stands s b.value ≡ true → GivesStanding s (operation s.core.structs o mark a b)
operation_of s op.Mul mark a b ta tb ha hb = arithmetic_stands s op.Mul mark a b ha hb
operation_of s op.Div mark a b ta tb ha hb = arithmetic_stands s op.Div mark a b ha hb
operation_of s op.Rem mark a b ta tb ha hb = arithmetic_stands s op.Rem mark a b ha hb
operation_of s op.Add mark a b ta tb ha hb = addition_stands s mark a b ha hb
operation_of s op.Sub mark a b ta tb ha hb = subtraction_stands s mark a b ha hb
operation_of s op.ShiftLeft mark a b ta tb ha hb =
    where_wanted (Stands s) (are_integers (form_of a.value) (form_of b.value)) mark.at 9
    (Ok (a_value (unit.Binary op.ShiftLeft (promoted_value a.value) (promoted_value b.value) mark)))
    (shifted s op.ShiftLeft mark a b refl ha hb)
operation_of s op.ShiftRight mark a b ta tb ha hb =
    where_wanted (Stands s) (are_integers (form_of a.value) (form_of b.value)) mark.at 9
    (Ok (a_value (unit.Binary op.ShiftRight (promoted_value a.value) (promoted_value b.value) mark)))
    (shifted s op.ShiftRight mark a b refl ha hb)
operation_of s op.Less mark a b ta tb ha hb = comparison_stands s op.Less mark a b refl ta tb ha hb
operation_of s op.Greater mark a b ta tb ha hb = comparison_stands s op.Greater mark a b refl ta tb ha hb
operation_of s op.LessEqual mark a b ta tb ha hb = comparison_stands s op.LessEqual mark a b refl ta tb ha hb
operation_of s op.GreaterEqual mark a b ta tb ha hb = comparison_stands s op.GreaterEqual mark a b refl ta tb ha hb
operation_of s op.Equal mark a b ta tb ha hb = comparison_stands s op.Equal mark a b refl ta tb ha hb
operation_of s op.NotEqual mark a b ta tb ha hb = comparison_stands s op.NotEqual mark a b refl ta tb ha hb
operation_of s op.BitAnd mark a b ta tb ha hb = arithmetic_stands s op.BitAnd mark a b ha hb
operation_of s op.BitXor mark a b ta tb ha hb = arithmetic_stands s op.BitXor mark a b ha hb
operation_of s op.BitOr mark a b ta tb ha hb = arithmetic_stands s op.BitOr mark a b ha hb

pub binary_stands : (s : Scope) (o : BinOp) (mark : Mark) (a b : Operand) → is_typed_operand s.core.structs a.value ≡ true → is_typed_operand s.core.structs b.value ≡ true →
    operand_stands s a.value ≡ true → operand_stands s b.value ≡ true → GivesStanding s (binary s.core.structs o mark a b)
binary_stands s o mark a b ta tb ha hb =
    where_none (Stands s) (left_fault s.core.structs a) (operation s.core.structs o mark a b) (λ n. operation_of s o mark a b ta tb ha hb)

pub logic_stands : (s : Scope) (o : LogicOp) (mark : Mark) (a b : Operand) → operand_stands s a.value ≡ true → operand_stands s b.value ≡ true →
    GivesStanding s (logic s.core.structs o mark a b)
logic_stands s o mark a b ha hb =
    let may = is_scalar (form_of a.value) && is_scalar (form_of b.value) in
    where_none (Stands s) (left_fault s.core.structs a) (unless (wants may mark.at 9) (Ok (a_value (unit.Logic o a.value b.value mark)))) (λ n.
    where_wanted (Stands s) may mark.at 9 (Ok (a_value (unit.Logic o a.value b.value mark))) (λ w.
    let parts = and_parts (is_scalar (form_of a.value)) (is_scalar (form_of b.value)) w in
    and_from (expr_stands s a.value) (expr_stands s b.value) (scalar_stands s a.value ha parts.0) (scalar_stands s b.value hb parts.1)))

-- ---- `[]`

element_by : (s : Scope) (mark : Mark) (a b : unit.Expr) (is_second : Bool) → expr_stands s a ≡ true → expr_stands s b ≡ true →
    can_move s.core.structs (form_of a) ≡ true → can_move s.core.structs (form_of b) ≡ true → lvalue_stands s (unit.Index is_second a b mark) ≡ true
element_by s mark a b true ha hb ma mb =
    and_from (expr_stands s a && expr_stands s b) (can_move s.core.structs (form_of b)) (and_from (expr_stands s a) (expr_stands s b) ha hb) mb
element_by s mark a b false ha hb ma mb =
    and_from (expr_stands s a && expr_stands s b) (can_move s.core.structs (form_of a)) (and_from (expr_stands s a) (expr_stands s b) ha hb) ma

pub index_stands : (s : Scope) (mark : Mark) (a b : Operand) → operand_stands s a.value ≡ true → operand_stands s b.value ≡ true →
    GivesStanding s (index s.core.structs mark a b)
index_stands s mark a b ha hb =
    let structs = s.core.structs in
    let may = are_moved (form_of a.value) (form_of b.value) || are_moved (form_of b.value) (form_of a.value) in
    let moves = or_fault (moved_fault structs a) (moved_fault structs b) in
    let made : Result Meaning Fault = Ok (element_place mark a.value b.value) in
    where_none (Stands s) (used_fault structs a) (unless (wants may mark.at 9) (unless moves made)) (λ u.
    where_wanted (Stands s) may mark.at 9 (unless moves made) (λ w.
    where_none (Stands s) moves made (λ n.
    let faults = neither (moved_fault structs a) (moved_fault structs b) n in
    let scalars = either_scalars (form_of a.value) (form_of b.value) w in
    element_by s mark a.value b.value (is_pointer (form_of b.value)) (scalar_stands s a.value ha scalars.0) (scalar_stands s b.value hb scalars.1)
    (can_be_moved structs a faults.first) (can_be_moved structs b faults.second))))
