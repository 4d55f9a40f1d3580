-- Unary operators name the first constraint that they break.
use Rattle.std.proofs.Common.{◌≡◌, ◌∙◌, inl, inr, ap, refl, Bool, true, false, ◌&&◌, ◌||◌, not, if◌then◌else◌, Option, Some, None, Ok, List, arith}
use Rattle.std.proofs.lemmas.Bool.{both_ways}
use Rattle.cake_base.specs.declared.places.Place.{Place}
use Rattle.cake_base.specs.declared.rules.Fault.{Fault}
use Rattle.model_types.specs.declared.operators.StepOp.{StepOp}
use Rattle.model_types.specs.declared.operators.StepSide.{StepSide}
use Rattle.model_types.specs.declared.operators.StepSide.TheVariants.{Prefix, Postfix}
use Rattle.model_types.specs.declared.operators.UnaryOp.TheVariants as op
use Rattle.model_types.specs.declared.marks.Mark.{Mark}
use Rattle.model_types.specs.declared.marks.Origin.TheVariants.{Written}
use Rattle.model_types.specs.Types.{Pointer, form_of_type}
use Rattle.model_types.specs.Structures.{Structure}
use Rattle.model_scopes.specs.DeclarationRules.{constraint_at}
use Rattle.model_grammar.specs.declared.syntax.PrefixOp.{PrefixOp}
use Rattle.model_grammar.specs.declared.syntax.PrefixOp.TheVariants as prefix
use Rattle.model_core.specs.CoreTypes.{is_void, object_type, is_pointer}
use Rattle.model_core.specs.SameTypes.{is_integer}
use Rattle.model_core.specs.TypedParts.{is_scalar, is_function, is_function_pointer}
use Rattle.model_core.specs.TypedExpr.{form_of}
use Rattle.model_core.specs.Core as unit
use Rattle.model_checking.specs.State.{unless}
use Rattle.model_checking.specs.Faults.{wants, or_fault}
use Rattle.model_checking.specs.HeldValues.{is_held}
use Rattle.model_checking.specs.MadeCore.{operand, promoted_value}
use Rattle.model_checking.specs.Meanings.{Meaning, a_place, a_value, a_function, a_target, Operand}
use Rattle.model_checking.specs.PointerRules.{points_to_object, moved_fault}
use Rattle.model_checking.specs.UnaryRules.{address, followed, indirection, unary, is_modifiable, of_object, operator_fault, step_fault, step_type, step}
use Rattle.model_constraints.specs.Pairs.{Pairs, At, Beside, IsUnbroken}
use Rattle.model_constraints.specs.BrokenValues.{broken_use}
use Rattle.model_constraints.specs.BrokenPointers.{points_to_complete, broken_move}
use Rattle.model_constraints.specs.BrokenOperators.{may_be_followed, may_be_changed, broken_unary, broken_step}
use Rattle.first_broken_laws.specs.FirstNamed.{Names, Answers, Precedes, Designates}
use Rattle.first_broken_laws.proofs.PairLaws.{all_here, all_stand, all_beside, at_unbroken, at_first, stand_at, stand_beside, names_at, wanted_unless, wanted_alone, wanted_then, fault_then, before_at, Same, names_same}
use Rattle.first_broken_laws.proofs.Operands.{use_stands, scalar_unbroken, integer_unbroken, points_same, move_named, move_stands}

-- ---- `&` and `*`

address_first : (mark : Mark) (first : Place) (structs : List Structure) (m : Meaning) → Answers (broken_unary structs prefix.Address mark.at first m) (address mark first m)
address_first mark first structs (a_place object known) =
    wanted_alone first 11 (not (not (is_held object) && not (is_void (object_type object)))) (not (is_held object) && not (is_void (object_type object)))
    (a_value (unit.Address Written object mark)) refl
address_first mark first structs (a_value value) = at_first first 11 true refl
address_first mark first structs (a_function id type by_name at) = at_unbroken first 11 false refl
address_first mark first structs (a_target pointer) = at_unbroken first 11 false refl

followed_by : (first : Place) (is w c : Bool) (x y : Meaning) → c ≡ w →
    Answers (At first 12 (not (is || c))) (if is then Ok x else unless (wants w first 12) (Ok y))
followed_by first true w c x y e = at_unbroken first 12 false refl
followed_by first false w c x y e = wanted_alone first 12 (not c) w y (ap not e)

followed_first : (structs : List Structure) (mark : Mark) (o : Operand) →
    Answers (At o.first 12 (not (may_be_followed structs (form_of o.value)))) (followed structs mark o)
followed_first structs mark o =
    followed_by o.first (is_function_pointer (form_of o.value)) (points_to_object structs (form_of o.value)) (points_to_complete structs (form_of o.value))
    (a_target o.value) (a_place (unit.Deref o.value mark) None) (points_same structs (form_of o.value))

indirection_first : (structs : List Structure) (mark : Mark) (first : Place) (m : Meaning) → Designates m →
    Answers (broken_unary structs prefix.Indirection mark.at first m) (indirection structs mark first m)
indirection_first structs mark first (a_place object known) d = followed_first structs mark (operand first (a_place object known))
indirection_first structs mark first (a_value value) d = followed_first structs mark (operand first (a_value value))
indirection_first structs mark first (a_function id type by_name at) d =
    at_unbroken first 12 (not (is_function (form_of_type type) || points_to_complete structs (Pointer type)))
    (ap (λ x. not (x || points_to_complete structs (Pointer type))) d)
indirection_first structs mark first (a_target pointer) d = followed_first structs mark (operand first (a_target pointer))

-- ---- `+`, `-`, `~` and `!`

integer_first : (structs : List Structure) (mark : Mark) (o : Operand) (x : Meaning) → Precedes mark.at o.first →
    Answers (Beside (At mark.at 9 (not (is_integer (form_of o.value)))) (broken_use structs o)) (unless (wants (is_integer (form_of o.value)) mark.at 9) (Ok x))
integer_first structs mark o x lt =
    wanted_unless mark.at 9 (not (is_integer (form_of o.value))) (is_integer (form_of o.value)) (broken_use structs o) (Ok x) refl
    (λ w. integer_unbroken structs o w) (λ w. all_stand (constraint_at mark.at 9) (broken_use structs o) (use_stands structs mark.at o lt))

scalar_first : (structs : List Structure) (mark : Mark) (o : Operand) (x : Meaning) → Precedes mark.at o.first →
    Answers (Beside (At mark.at 9 (not (is_scalar (form_of o.value)))) (broken_use structs o)) (unless (wants (is_scalar (form_of o.value)) mark.at 9) (Ok x))
scalar_first structs mark o x lt =
    wanted_unless mark.at 9 (not (is_scalar (form_of o.value))) (is_scalar (form_of o.value)) (broken_use structs o) (Ok x) refl
    (λ w. scalar_unbroken structs o w) (λ w. all_stand (constraint_at mark.at 9) (broken_use structs o) (use_stands structs mark.at o lt))

pub unary_first : (structs : List Structure) (op : PrefixOp) (mark : Mark) (first : Place) (m : Meaning) → Precedes mark.at first → Designates m →
    Answers (broken_unary structs op mark.at first m) (unary structs op mark first m)
unary_first structs prefix.Address mark first m lt d = address_first mark first structs m
unary_first structs prefix.Indirection mark first m lt d = indirection_first structs mark first m d
unary_first structs prefix.Plus mark first m lt d = integer_first structs mark (operand first m) (a_value (promoted_value (operand first m).value)) lt
unary_first structs prefix.Minus mark first m lt d =
    integer_first structs mark (operand first m) (a_value (unit.Unary op.Minus (promoted_value (operand first m).value) mark)) lt
unary_first structs prefix.Complement mark first m lt d =
    integer_first structs mark (operand first m) (a_value (unit.Unary op.Complement (promoted_value (operand first m).value) mark)) lt
unary_first structs prefix.Not mark first m lt d = scalar_first structs mark (operand first m) (a_value (unit.Unary op.Not (operand first m).value mark)) lt

-- ---- `++` and `--`

pub changed_same : (structs : List Structure) (m : Meaning) → may_be_changed structs m ≡ is_modifiable structs m
changed_same structs (a_place object known) = refl
changed_same structs (a_value value) = refl
changed_same structs (a_function id type by_name mark) = refl
changed_same structs (a_target pointer) = refl

-- what may be changed is an object
pub of_object_unbroken : (structs : List Structure) (at : Place) (m : Meaning) (make : unit.Lvalue → unit.Expr) (P : Pairs) → is_modifiable structs m ≡ true →
    IsUnbroken P → Answers P (of_object at m make)
of_object_unbroken structs at (a_place object known) make P e u = u
of_object_unbroken structs at (a_value value) make P e u = absurd (both_ways false refl e)
of_object_unbroken structs at (a_function id type by_name mark) make P e u = absurd (both_ways false refl e)
of_object_unbroken structs at (a_target pointer) make P e u = absurd (both_ways false refl e)

object_by : (structs : List Structure) (at : Place) (m : Meaning) (make : unit.Lvalue → unit.Expr) (P : Pairs) (b : Bool) → is_modifiable structs m ≡ b →
    (is_modifiable structs m ≡ false → P at 10) → IsUnbroken P → Answers P (of_object at m make)
object_by structs at m make P true e k u = of_object_unbroken structs at m make P e u
object_by structs at m make P false e k u = absurd (u at 10 (k e))

pub object_first : (structs : List Structure) (at : Place) (m : Meaning) (make : unit.Lvalue → unit.Expr) (P : Pairs) (f : Option Fault) →
    (is_modifiable structs m ≡ false → P at 10) → Names P f → Answers P (unless f (of_object at m make))
object_first structs at m make P None k h = object_by structs at m make P (is_modifiable structs m) refl k h
object_first structs at m make P (Some fault) k h = h

-- C10 at a place
pub unchanged_there : (structs : List Structure) (at : Place) (m : Meaning) → is_modifiable structs m ≡ false → At at 10 (not (may_be_changed structs m)) at 10
unchanged_there structs at m e = (ap not (changed_same structs m ∙ e), refl, refl)

or_fault_same : (f g h : Option Fault) → or_fault f (or_fault g h) ≡ or_fault (or_fault f g) h
or_fault_same None g h = refl
or_fault_same (Some x) g h = refl

moved_last : (A B C : Pairs) → Same (Beside C (Beside A B)) (Beside A (Beside B C))
moved_last A B C = record {
  to = λ place rule h. elim h [ inl c ↦ inr (inr c) | inr x ↦ elim x [ inl a ↦ inl a | inr b ↦ inr (inl b) ] ];
  from = λ place rule h. elim h [ inl a ↦ inr (inl a) | inr x ↦ elim x [ inl b ↦ inr (inr b) | inr c ↦ inl c ] ];
}

step_named : (structs : List Structure) (side : StepSide) (at first : Place) (m : Meaning) →
    (side ≡ Prefix → Precedes at first) → (side ≡ Postfix → Precedes first at) → Names (broken_step structs at first m) (step_fault structs side at first m)
step_named structs Prefix at first m before behind =
    let M = broken_move structs true (operand first m) in
    let A = At at 10 (not (may_be_changed structs m)) in
    let changed = is_modifiable structs m in
    let scalar = is_scalar (form_of (operand first m).value) in
    rw (← or_fault_same (wants scalar at 9) (wants changed at 10) (moved_fault structs (operand first m)))
    (wanted_then at 9 (not scalar) scalar (Beside A M) (or_fault (wants changed at 10) (moved_fault structs (operand first m))) refl
    (λ w. wanted_then at 10 (not (may_be_changed structs m)) changed M (moved_fault structs (operand first m)) (ap not (changed_same structs m))
    (λ v. move_named structs true (operand first m) refl)
    (λ v. all_stand (constraint_at at 10) M (move_stands structs at true (operand first m) (before refl))))
    (λ w. all_beside (constraint_at at 9) A M (all_here at 9 10 (not (may_be_changed structs m)) (omega arith))
    (all_stand (constraint_at at 9) M (move_stands structs at true (operand first m) (before refl)))))
step_named structs Postfix at first m before behind =
    let M = broken_move structs true (operand first m) in
    let A = At at 10 (not (may_be_changed structs m)) in
    let changed = is_modifiable structs m in
    let scalar = is_scalar (form_of (operand first m).value) in
    let N = At at 9 (not scalar) in
    names_same (Beside M (Beside N A)) (Beside N (Beside A M)) (or_fault (moved_fault structs (operand first m)) (operator_fault structs at m)) (moved_last N A M)
    (fault_then M (Beside N A) (moved_fault structs (operand first m)) (operator_fault structs at m) (move_named structs true (operand first m) refl)
    (λ n. wanted_then at 9 (not scalar) scalar A (wants changed at 10) refl
    (λ w. names_at at 10 (not (may_be_changed structs m)) changed (ap not (changed_same structs m)))
    (λ w. all_here at 9 10 (not (may_be_changed structs m)) (omega arith)))
    (before_at first 12 (true && is_pointer (form_of (operand first m).value) && not (points_to_complete structs (form_of (operand first m).value))) (Beside N A)
    (λ e. all_stand (constraint_at first 12) (Beside N A) (stand_beside first N A
    (stand_at first at 9 (not scalar) (λ e. behind refl)) (stand_at first at 10 (not (may_be_changed structs m)) (λ e. behind refl))))))

pub step_first : (structs : List Structure) (op : StepOp) (side : StepSide) (mark : Mark) (first : Place) (m : Meaning) →
    (side ≡ Prefix → Precedes mark.at first) → (side ≡ Postfix → Precedes first mark.at) →
    Answers (broken_step structs mark.at first m) (step structs op side mark first m)
step_first structs o side mark first m before behind =
    object_first structs mark.at m (λ object. unit.Step o side (step_type object) object mark) (broken_step structs mark.at first m) (step_fault structs side mark.at first m)
    (λ e. inr (inl (unchanged_there structs mark.at m e)))
    (step_named structs side mark.at first m before behind)
