-- What the rules of assignments make is typed.
use Rattle.std.proofs.Common.{◌≡◌, ◌∙◌, ap, sym, refl, ℤ, Bool, true, false, ◌&&◌, ◌||◌, not, if◌then◌else◌, List, Option, None, Result, Ok, Err, inl, inr}
use Rattle.std.specs.Result.{IfOk}
use Rattle.std.proofs.lemmas.Bool.{and_parts, or_cases, not-true, both_ways}
use Rattle.cake_base.specs.declared.places.Place.{Place}
use Rattle.cake_base.specs.declared.rules.Fault.{Fault}
use Rattle.model_types.specs.declared.numbers.BinOp.{BinOp}
use Rattle.model_types.specs.declared.numbers.BinOp.TheVariants as op
use Rattle.model_types.specs.declared.marks.Mark.{Mark}
use Rattle.model_types.specs.Types.{CType, Form, Integer, form_of_type}
use Rattle.model_types.specs.Structures.{Structure}
use Rattle.model_types.specs.Conversions.{promoted, common, is_shift, is_comparison}
use Rattle.model_types.specs.Compatible.{same_basic}
use Rattle.model_core.specs.CoreTypes.{type_of, object_type, unqualified, is_pointer, basic_of}
use Rattle.model_core.specs.SameTypes.{is_integer, same_value_type}
use Rattle.model_core.specs.TypedParts.{is_array, is_object_pointer, is_promoted, moves_pointer, done_fits, done_in_type, integer_value_fits}
use Rattle.model_core.specs.TypedExpr.{form_of, object_form, is_typed}
use Rattle.model_core.specs.Core as unit
use Rattle.model_checking.specs.State.{unless}
use Rattle.model_checking.specs.Meanings.{Meaning, a_place, a_value, a_function, a_target, Operand}
use Rattle.model_checking.specs.Faults.{wants, or_fault}
use Rattle.model_checking.specs.MadeCore.{operand, value_of, object_value, basic_in, converted, promoted_type, promoted_value, common_type, are_integers}
use Rattle.model_checking.specs.Conversion.{passed}
use Rattle.model_checking.specs.UnaryRules.{is_modifiable, of_object}
use Rattle.model_checking.specs.PointerRules.{may_be_added, may_be_apart, moved_fault, are_moved}
use Rattle.model_checking.specs.AssignRules.{assign_left, assigned, assign, may_be_assigned_by, assign_by_fault, done_type, done_value, assigned_by, assign_by}
use Rattle.typed_rule_laws.specs.TypedMeanings.{is_typed_value, is_typed_object, is_typed_meaning, is_typed_operand, GivesTyped}
use Rattle.typed_rule_laws.proofs.TypeForms.{unqualified_form, form_self, basic_self}
use Rattle.typed_rule_laws.proofs.Values.{value_parts, value_from, object_parts, value_form_from, unqualified_value_type}
use Rattle.typed_rule_laws.proofs.Integers.{promoted_is_promoted, common_is_promoted, common_again}
use Rattle.typed_rule_laws.proofs.Converted.{to_integer_is_typed, to_integer_form, promoted_value_is_typed, promoted_value_promoted}
use Rattle.typed_rule_laws.proofs.NullConstants.{integer_not_pointer}
use Rattle.typed_rule_laws.proofs.Outcomes.{where_wanted, where_none, neither, wanted, integer_operand}
use Rattle.typed_rule_laws.proofs.UnaryForms.{IsTyped, place_object, Modifiable, modifiable, assigned_to, object_value_form, moved_object}
use Rattle.typed_rule_laws.proofs.CallForms.{passed_is_typed}

-- ---- `=`

plain_assigned : (structs : List Structure) (mark : Mark) (object : unit.Lvalue) (e : unit.Expr) → is_typed_object structs object ≡ true → Modifiable structs object →
    is_typed_value structs e ≡ true → same_value_type (object_type object) (type_of e) ≡ true →
    is_typed_value structs (unit.Assign unit.Plain object e mark) ≡ true
plain_assigned structs mark object e h changed v same =
    let parts = object_parts structs object h in
    value_from structs (unit.Assign unit.Plain object e mark)
    (rw (parts.typed_by, (value_parts structs e v).typed_by, assigned_to structs object changed, same) refl)
    (unqualified_value_type structs (object_type object) parts.possible (value_form_from (object_form object) changed.not_array parts.not_function))

assigned_typed : (structs : List Structure) (mark : Mark) (object : unit.Lvalue) (known : Option ℤ) (given : Result unit.Expr Fault) → is_typed_object structs object ≡ true →
    Modifiable structs object → IfOk given (λ e. (is_typed_value structs e && same_value_type (object_type object) (type_of e)) ≡ true) →
    GivesTyped structs (assigned mark (a_place object known) given)
assigned_typed structs mark object known (Ok e) h changed given =
    let parts = and_parts (is_typed_value structs e) (same_value_type (object_type object) (type_of e)) given in
    plain_assigned structs mark object e h changed parts.0 parts.1
assigned_typed structs mark object known (Err fault) h changed given = tt

pub assign_is_typed : (structs : List Structure) (mark : Mark) (left : Meaning) (right : Operand) → is_typed_meaning structs left ≡ true →
    is_typed_operand structs right.value ≡ true → GivesTyped structs (assign structs mark left right)
assign_is_typed structs mark (a_place object known) right h v =
    let given = passed structs right.first (object_type object) right.value in
    let whole = place_object structs object known h in
    where_wanted (IsTyped structs) (is_modifiable structs (a_place object known)) mark.at 10 (assigned mark (a_place object known) given) (λ w.
    assigned_typed structs mark object known given whole (modifiable structs object known w)
    (passed_is_typed structs right.first (object_type object) right.value (object_parts structs object whole).possible v))
assign_is_typed structs mark (a_value value) right h v = tt
assign_is_typed structs mark (a_function id type by_name at) right h v = tt
assign_is_typed structs mark (a_target pointer) right h v = tt

-- ---- `op=`

no_integer_pointer : (f g : Form) → are_integers f g ≡ true → is_pointer f ≡ true → ⊥
no_integer_pointer f g h p = both_ways (is_pointer f) (integer_not_pointer f (and_parts (is_integer f) (is_integer g) h).0) p

add_right : (f g : Form) → are_integers f g || are_moved f g || are_moved g f ≡ true → is_pointer g ≡ false → is_integer g ≡ true
add_right f g h n = elim (or_cases (are_integers f g || are_moved f g) (are_moved g f) h) [
  | inl front ↦ elim (or_cases (are_integers f g) (are_moved f g) front) [
    | inl integers ↦ (and_parts (is_integer f) (is_integer g) integers).1
    | inr moves ↦ (and_parts (is_pointer f) (is_integer g) moves).1
  ]
  | inr moves ↦ absurd (both_ways (is_pointer g) n (and_parts (is_pointer g) (is_integer f) moves).0)
]

subtract_right : (f g : Form) → are_integers f g || are_moved f g || is_pointer f && is_pointer g ≡ true → is_pointer g ≡ false → is_integer g ≡ true
subtract_right f g h n = elim (or_cases (are_integers f g || are_moved f g) (is_pointer f && is_pointer g) h) [
  | inl front ↦ elim (or_cases (are_integers f g) (are_moved f g) front) [
    | inl integers ↦ (and_parts (is_integer f) (is_integer g) integers).1
    | inr moves ↦ (and_parts (is_pointer f) (is_integer g) moves).1
  ]
  | inr pointers ↦ absurd (both_ways (is_pointer g) n (and_parts (is_pointer f) (is_pointer g) pointers).1)
]

add_integers : (f g : Form) → are_integers f g || are_moved f g || are_moved g f ≡ true → is_pointer f ≡ false → is_pointer g ≡ false → are_integers f g ≡ true
add_integers f g h p n = elim (or_cases (are_integers f g || are_moved f g) (are_moved g f) h) [
  | inl front ↦ elim (or_cases (are_integers f g) (are_moved f g) front) [
    | inl integers ↦ integers
    | inr moves ↦ absurd (both_ways (is_pointer f) p (and_parts (is_pointer f) (is_integer g) moves).0)
  ]
  | inr moves ↦ absurd (both_ways (is_pointer g) n (and_parts (is_pointer g) (is_integer f) moves).0)
]

subtract_integers : (f g : Form) → are_integers f g || are_moved f g || is_pointer f && is_pointer g ≡ true → is_pointer f ≡ false → is_pointer g ≡ false → are_integers f g ≡ true
subtract_integers f g h p n = elim (or_cases (are_integers f g || are_moved f g) (is_pointer f && is_pointer g) h) [
  | inl front ↦ elim (or_cases (are_integers f g) (are_moved f g) front) [
    | inl integers ↦ integers
    | inr moves ↦ absurd (both_ways (is_pointer f) p (and_parts (is_pointer f) (is_integer g) moves).0)
  ]
  | inr pointers ↦ absurd (both_ways (is_pointer f) p (and_parts (is_pointer f) (is_pointer g) pointers).0)
]

-- a pointer is moved by `+=` and `-=` alone, by an integer
pointer_added : (o : BinOp) (f g : Form) → may_be_added o f g ≡ true → is_pointer f ≡ true → is_pointer g ≡ false → (moves_pointer o ≡ true) × (is_integer g ≡ true)
pointer_added op.Mul f g h p n = absurd (no_integer_pointer f g h p)
pointer_added op.Div f g h p n = absurd (no_integer_pointer f g h p)
pointer_added op.Rem f g h p n = absurd (no_integer_pointer f g h p)
pointer_added op.Add f g h p n = (refl, add_right f g h n)
pointer_added op.Sub f g h p n = (refl, subtract_right f g h n)
pointer_added op.ShiftLeft f g h p n = absurd (no_integer_pointer f g h p)
pointer_added op.ShiftRight f g h p n = absurd (no_integer_pointer f g h p)
pointer_added op.Less f g h p n = absurd (no_integer_pointer f g h p)
pointer_added op.Greater f g h p n = absurd (no_integer_pointer f g h p)
pointer_added op.LessEqual f g h p n = absurd (no_integer_pointer f g h p)
pointer_added op.GreaterEqual f g h p n = absurd (no_integer_pointer f g h p)
pointer_added op.Equal f g h p n = absurd (no_integer_pointer f g h p)
pointer_added op.NotEqual f g h p n = absurd (no_integer_pointer f g h p)
pointer_added op.BitAnd f g h p n = absurd (no_integer_pointer f g h p)
pointer_added op.BitXor f g h p n = absurd (no_integer_pointer f g h p)
pointer_added op.BitOr f g h p n = absurd (no_integer_pointer f g h p)

-- and integers are done in their type
integers_added : (o : BinOp) (f g : Form) → may_be_added o f g ≡ true → is_pointer f ≡ false → is_pointer g ≡ false → are_integers f g ≡ true
integers_added op.Mul f g h p n = h
integers_added op.Div f g h p n = h
integers_added op.Rem f g h p n = h
integers_added op.Add f g h p n = add_integers f g h p n
integers_added op.Sub f g h p n = subtract_integers f g h p n
integers_added op.ShiftLeft f g h p n = h
integers_added op.ShiftRight f g h p n = h
integers_added op.Less f g h p n = h
integers_added op.Greater f g h p n = h
integers_added op.LessEqual f g h p n = h
integers_added op.GreaterEqual f g h p n = h
integers_added op.Equal f g h p n = h
integers_added op.NotEqual f g h p n = h
integers_added op.BitAnd f g h p n = h
integers_added op.BitXor f g h p n = h
integers_added op.BitOr f g h p n = h

done_by : (o : BinOp) (a b : unit.Expr) (object : Form) (shifts : Bool) → is_shift o ≡ shifts → form_of a ≡ object → is_integer object ≡ true →
    done_in_type o (basic_of (form_of_type (if shifts then promoted_type a else common_type a b))) (basic_of object)
    && integer_value_fits o (form_of_type (if shifts then promoted_type a else common_type a b)) (form_of (if shifts then promoted_value b else converted (common_type a b) b)) ≡ true
done_by o a b object true s e i =
    rw (s, e, basic_self (promoted (basic_of object)), promoted_value_promoted b) refl
done_by o a b object false s e i =
    let c = common (basic_in a) (basic_in b) in
    let done : same_basic (common (basic_of object) c) c ≡ true = ap (λ f. same_basic (common (basic_of f) c) c) (sym e) ∙ common_again (basic_in a) (basic_in b) in
    rw (s, to_integer_form c b, done, form_self (Integer c)) refl

done_promoted : (o : BinOp) (a b : unit.Expr) (shifts : Bool) → is_promoted (form_of_type (if shifts then promoted_type a else common_type a b)) ≡ true
done_promoted o a b true = promoted_is_promoted (basic_in a)
done_promoted o a b false = common_is_promoted (basic_in a) (basic_in b)

done_not_pointer : (a b : unit.Expr) (shifts : Bool) → is_pointer (form_of_type (if shifts then promoted_type a else common_type a b)) ≡ false
done_not_pointer a b true = refl
done_not_pointer a b false = refl

done_value_typed : (structs : List Structure) (a b : unit.Expr) (shifts : Bool) → is_typed_value structs b ≡ true → is_integer (form_of b) ≡ true →
    is_typed_value structs (if shifts then promoted_value b else converted (common_type a b) b) ≡ true
done_value_typed structs a b true h i = promoted_value_is_typed structs b h i
done_value_typed structs a b false h i = to_integer_is_typed structs (common (basic_in a) (basic_in b)) b h i

integers_done : (o : BinOp) (a b : unit.Expr) (object : Form) → is_comparison o ≡ false → form_of a ≡ object → is_integer object ≡ true →
    done_fits o (form_of_type (done_type o a b)) object (form_of (done_value o a b)) ≡ true
integers_done o a b object c e i =
    let parts = and_parts (done_in_type o (basic_of (form_of_type (done_type o a b))) (basic_of object))
    (integer_value_fits o (form_of_type (done_type o a b)) (form_of (done_value o a b))) (done_by o a b object (is_shift o) refl e i) in
    rw (done_not_pointer a b (is_shift o), c, i, done_promoted o a b (is_shift o), parts.0, parts.1) refl

record Done (structs : List Structure) (mark : Mark) (object : unit.Lvalue) (a b : unit.Expr) : Type 0 where
  whole : is_typed_object structs object ≡ true
  changed : Modifiable structs object
  same : form_of a ≡ object_form object
  right : is_typed_value structs b ≡ true

assigned_value : (structs : List Structure) (o : BinOp) (mark : Mark) (object : unit.Lvalue) (type : CType) (e : unit.Expr) → is_typed_object structs object ≡ true →
    Modifiable structs object → is_typed e ≡ true → done_fits o (form_of_type type) (object_form object) (form_of e) ≡ true →
    is_typed_value structs (unit.Assign (unit.Compound o type) object e mark) ≡ true
assigned_value structs o mark object type e h changed t fits =
    let parts = object_parts structs object h in
    value_from structs (unit.Assign (unit.Compound o type) object e mark)
    (rw (parts.typed_by, t, assigned_to structs object changed) fits)
    (unqualified_value_type structs (object_type object) parts.possible (value_form_from (object_form object) changed.not_array parts.not_function))

pointer_done : (o : BinOp) (t : CType) (g : Form) → is_array (form_of_type t) ≡ false → is_pointer (form_of_type t) ≡ true → is_object_pointer (form_of_type t) ≡ true →
    moves_pointer o ≡ true → is_integer g ≡ true → done_fits o (form_of_type (unqualified t)) (form_of_type t) g ≡ true
pointer_done o t g a p object m i = rw (unqualified_form t a, p, m, object, form_self (form_of_type t), i) refl

assigned_by_typed : (structs : List Structure) (o : BinOp) (mark : Mark) (a b : unit.Expr) (object : unit.Lvalue) (pointer : Bool) → is_pointer (object_form object) ≡ pointer →
    Done structs mark object a b → is_comparison o ≡ false → may_be_added o (object_form object) (form_of b) ≡ true → is_pointer (form_of b) ≡ false →
    (is_pointer (object_form object) ≡ true → is_object_pointer (object_form object) ≡ true) →
    is_typed_value structs (if pointer then unit.Assign (unit.Compound o (unqualified (object_type object))) object b mark
    else unit.Assign (unit.Compound o (done_type o a b)) object (done_value o a b) mark) ≡ true
assigned_by_typed structs o mark a b object true p done c may n points =
    let moves = pointer_added o (object_form object) (form_of b) may p n in
    assigned_value structs o mark object (unqualified (object_type object)) b done.whole done.changed (value_parts structs b done.right).typed_by
    (pointer_done o (object_type object) (form_of b) done.changed.not_array p (points p) moves.0 moves.1)
assigned_by_typed structs o mark a b object false p done c may n points =
    let integers = and_parts (is_integer (object_form object)) (is_integer (form_of b)) (integers_added o (object_form object) (form_of b) may p n) in
    assigned_value structs o mark object (done_type o a b) (done_value o a b) done.whole done.changed
    (value_parts structs (done_value o a b) (done_value_typed structs a b (is_shift o) done.right integers.1)).typed_by
    (integers_done o a b (object_form object) c done.same integers.0)

-- what isn't a pointer and may be added is an integer
pub added_right : (o : BinOp) (f g : Form) → may_be_added o f g ≡ true → is_pointer g ≡ false → is_integer g ≡ true
added_right op.Mul f g h n = (and_parts (is_integer f) (is_integer g) h).1
added_right op.Div f g h n = (and_parts (is_integer f) (is_integer g) h).1
added_right op.Rem f g h n = (and_parts (is_integer f) (is_integer g) h).1
added_right op.Add f g h n = add_right f g h n
added_right op.Sub f g h n = subtract_right f g h n
added_right op.ShiftLeft f g h n = (and_parts (is_integer f) (is_integer g) h).1
added_right op.ShiftRight f g h n = (and_parts (is_integer f) (is_integer g) h).1
added_right op.Less f g h n = (and_parts (is_integer f) (is_integer g) h).1
added_right op.Greater f g h n = (and_parts (is_integer f) (is_integer g) h).1
added_right op.LessEqual f g h n = (and_parts (is_integer f) (is_integer g) h).1
added_right op.GreaterEqual f g h n = (and_parts (is_integer f) (is_integer g) h).1
added_right op.Equal f g h n = (and_parts (is_integer f) (is_integer g) h).1
added_right op.NotEqual f g h n = (and_parts (is_integer f) (is_integer g) h).1
added_right op.BitAnd f g h n = (and_parts (is_integer f) (is_integer g) h).1
added_right op.BitXor f g h n = (and_parts (is_integer f) (is_integer g) h).1
added_right op.BitOr f g h n = (and_parts (is_integer f) (is_integer g) h).1

pub record AssignParts (structs : List Structure) (at : Place) (m : Meaning) (a b : Operand) : Type 0 where
  pub moves : moved_fault structs a ≡ None
  pub modified : is_modifiable structs m ≡ true
  pub not_pointer : is_pointer (form_of b.value) ≡ false

pub assign_parts : (structs : List Structure) (mark : Mark) (m : Meaning) (a b : Operand) → assign_by_fault structs mark m a b ≡ None → AssignParts structs mark.at m a b
assign_parts structs mark m a b h =
    let apart = wants (may_be_apart a.value b.value) mark.at 19 in
    let last = or_fault (moved_fault structs b) (wants (not (is_pointer (form_of b.value))) b.first 16) in
    let first = neither (moved_fault structs a) (or_fault (assign_left structs mark m) (or_fault apart last)) h in
    let second = neither (assign_left structs mark m) (or_fault apart last) first.second in
    let third = neither apart last second.second in
    let fourth = neither (moved_fault structs b) (wants (not (is_pointer (form_of b.value))) b.first 16) third.second in
    record {
      moves = first.first;
      modified = wanted (is_modifiable structs m) mark.at 10 second.first;
      not_pointer = not-true (is_pointer (form_of b.value)) (wanted (not (is_pointer (form_of b.value))) b.first 16 fourth.second);
    }

compound_typed : (structs : List Structure) (o : BinOp) (mark : Mark) (first : Place) (object : unit.Lvalue) (known : Option ℤ) (right : Operand) →
    is_typed_object structs object ≡ true → is_typed_operand structs right.value ≡ true →
    may_be_assigned_by o (operand first (a_place object known)) right ≡ true → AssignParts structs mark.at (a_place object known) (operand first (a_place object known)) right →
    is_typed_value structs (assigned_by o mark (value_of (a_place object known)) right.value object) ≡ true
compound_typed structs o mark first object known right h v may parts =
    let a = object_value object known in
    let changed = modifiable structs object known parts.modified in
    let same = object_value_form object known changed.not_array in
    let operator = and_parts (not (is_comparison o)) (may_be_added o (form_of a) (form_of right.value)) may in
    let added : may_be_added o (object_form object) (form_of right.value) ≡ true = ap (λ f. may_be_added o f (form_of right.value)) (sym same) ∙ operator.1 in
    assigned_by_typed structs o mark a right.value object (is_pointer (object_form object)) refl
    (record {
      whole = h;
      changed = changed;
      same = same;
      right = integer_operand structs right.value v (added_right o (object_form object) (form_of right.value) added parts.not_pointer);
    })
    (not-true (is_comparison o) operator.0) added parts.not_pointer
    (λ p. ap is_object_pointer (sym same) ∙ moved_object structs (operand first (a_place object known)) parts.moves (ap is_pointer same ∙ p))

pub assign_by_is_typed : (structs : List Structure) (o : BinOp) (mark : Mark) (first : Place) (left : Meaning) (right : Operand) → is_typed_meaning structs left ≡ true →
    is_typed_operand structs right.value ≡ true → GivesTyped structs (assign_by structs o mark first left right)
assign_by_is_typed structs o mark first (a_place object known) right h v =
    let left = a_place object known in
    let made : Result Meaning Fault = Ok (a_value (assigned_by o mark (value_of left) right.value object)) in
    where_wanted (IsTyped structs) (may_be_assigned_by o (operand first left) right) mark.at 9 (unless (assign_by_fault structs mark left (operand first left) right) made) (λ w.
    where_none (IsTyped structs) (assign_by_fault structs mark left (operand first left) right) made (λ n.
    compound_typed structs o mark first object known right (place_object structs object known h) v w (assign_parts structs mark left (operand first left) right n)))
assign_by_is_typed structs o mark first (a_value value) right h v =
    let left = a_value value in
    where_wanted (IsTyped structs) (may_be_assigned_by o (operand first left) right) mark.at 9
    (unless (assign_by_fault structs mark left (operand first left) right) (of_object mark.at left (λ object. assigned_by o mark (value_of left) right.value object))) (λ w.
    where_none (IsTyped structs) (assign_by_fault structs mark left (operand first left) right)
    (of_object mark.at left (λ object. assigned_by o mark (value_of left) right.value object)) (λ n. tt))
assign_by_is_typed structs o mark first (a_function id type by_name at) right h v =
    let left = a_function id type by_name at in
    where_wanted (IsTyped structs) (may_be_assigned_by o (operand first left) right) mark.at 9
    (unless (assign_by_fault structs mark left (operand first left) right) (of_object mark.at left (λ object. assigned_by o mark (value_of left) right.value object))) (λ w.
    where_none (IsTyped structs) (assign_by_fault structs mark left (operand first left) right)
    (of_object mark.at left (λ object. assigned_by o mark (value_of left) right.value object)) (λ n. tt))
assign_by_is_typed structs o mark first (a_target pointer) right h v =
    let left = a_target pointer in
    where_wanted (IsTyped structs) (may_be_assigned_by o (operand first left) right) mark.at 9
    (unless (assign_by_fault structs mark left (operand first left) right) (of_object mark.at left (λ object. assigned_by o mark (value_of left) right.value object))) (λ w.
    where_none (IsTyped structs) (assign_by_fault structs mark left (operand first left) right)
    (of_object mark.at left (λ object. assigned_by o mark (value_of left) right.value object)) (λ n. tt))
