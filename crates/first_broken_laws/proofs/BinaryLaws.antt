-- Binary operators but comparisons, and `[]`, name the first constraint that they break.
use Rattle.std.proofs.Common.{◌≡◌, ◌∙◌, ap, refl, Bool, true, false, ◌&&◌, ◌||◌, not, Ok, List, arith}
use Rattle.std.proofs.lemmas.Bool.{and_parts, or_right, both_ways}
use Rattle.cake_base.specs.declared.places.Place.{Place}
use Rattle.model_types.specs.declared.numbers.BinOp.TheVariants as op
use Rattle.model_types.specs.declared.marks.Mark.{Mark}
use Rattle.model_types.specs.Types.{Form}
use Rattle.model_types.specs.Structures.{Structure}
use Rattle.model_scopes.specs.DeclarationRules.{constraint_at}
use Rattle.model_core.specs.CoreTypes.{is_pointer}
use Rattle.model_core.specs.SameTypes.{is_integer, is_null_constant}
use Rattle.model_core.specs.TypedParts.{is_scalar, alike_pointers}
use Rattle.model_core.specs.TypedExpr.{form_of}
use Rattle.model_checking.specs.State.{unless}
use Rattle.model_checking.specs.Faults.{wants, or_fault}
use Rattle.model_checking.specs.MadeCore.{operand_form, used_fault}
use Rattle.model_checking.specs.Meanings.{Meaning, a_value, Operand}
use Rattle.model_checking.specs.PointerRules.{are_moved, may_be_added, may_be_apart, moved_fault, sum_fault, added, sum, element_place, index}
use Rattle.model_constraints.specs.Pairs.{Nothing, At, Beside, IsUnbroken}
use Rattle.model_constraints.specs.BrokenValues.{broken_use}
use Rattle.model_constraints.specs.BrokenPointers.{points_to_complete, broken_move, are_pointers, is_one_null, broken_difference, takes_element, broken_element}
use Rattle.model_constraints.specs.BrokenOperators.{are_integers, takes_summands, takes_difference, broken_sum, broken_logic}
use Rattle.first_broken_laws.specs.FirstNamed.{Names, Answers, Precedes}
use Rattle.first_broken_laws.proofs.PairLaws.{StandBehind, all_nothing, all_beside, all_unbroken, all_stand, stand_at, stand_beside, stand_unbroken, at_unbroken, nothing_unbroken, beside_unbroken, names_left, wanted_unless, wanted_then, fault_alone, fault_then, fault_unless, before_at, before_unbroken}
use Rattle.first_broken_laws.proofs.Operands.{use_named, use_stands, scalar_unbroken, integer_unbroken, before_use, move_named, unmoved, no_pointer_unmoved, move_stands}

-- ---- operators of integers

pub integers_first : (structs : List Structure) (mark : Mark) (a b : Operand) (x : Meaning) → Precedes mark.at b.first →
    Answers (Beside (At mark.at 9 (not (are_integers a.value b.value))) (Beside Nothing (broken_use structs b)))
    (unless (wants (is_integer (form_of a.value) && is_integer (form_of b.value)) mark.at 9) (Ok x))
integers_first structs mark a b x lt =
    wanted_unless mark.at 9 (not (are_integers a.value b.value)) (is_integer (form_of a.value) && is_integer (form_of b.value)) (Beside Nothing (broken_use structs b)) (Ok x) refl
    (λ w. beside_unbroken Nothing (broken_use structs b) nothing_unbroken
    (integer_unbroken structs b (and_parts (is_integer (form_of a.value)) (is_integer (form_of b.value)) w).1))
    (λ w. all_beside (constraint_at mark.at 9) Nothing (broken_use structs b) (all_nothing (constraint_at mark.at 9))
    (all_stand (constraint_at mark.at 9) (broken_use structs b) (use_stands structs mark.at b lt)))

-- ---- sums and differences

both_before : (a b c : Place) → Precedes a b → Precedes b c → Precedes a c
both_before a b c h k = omega (arith, h, k)

pub apart_same : (t p al na nb : Bool) → t ≡ true → (t && p && not al && not (na || nb)) ≡ not (not p || al || na || nb)
apart_same false p al na nb e = absurd (both_ways false refl e)
apart_same true false al na nb e = refl
apart_same true true true na nb e = refl
apart_same true true false na nb e = refl

pub guarded : (t p q r : Bool) → t ≡ false → (t && p && q && r) ≡ false
guarded true p q r e = absurd (both_ways true e refl)
guarded false p q r e = refl

pub sum_named : (structs : List Structure) (at : Place) (t : Bool) (a b : Operand) → t ≡ true → Precedes a.first at → Precedes at b.first →
    Names (broken_sum structs at t a b) (sum_fault structs at a b)
sum_named structs at t a b e before behind =
    let L = broken_move structs t a in
    let D = broken_difference at t a.value b.value in
    let R = broken_move structs t b in
    let c = t && are_pointers a.value b.value && not (alike_pointers (form_of a.value) (form_of b.value)) && not (is_one_null a.value b.value) in
    fault_then L (Beside D R) (moved_fault structs a) (or_fault (wants (may_be_apart a.value b.value) at 19) (moved_fault structs b)) (move_named structs t a e)
    (λ n. wanted_then at 19 c (may_be_apart a.value b.value) R (moved_fault structs b)
    (apart_same t (are_pointers a.value b.value) (alike_pointers (form_of a.value) (form_of b.value)) (is_null_constant a.value) (is_null_constant b.value) e)
    (λ w. move_named structs t b e)
    (λ w. all_stand (constraint_at at 19) R (move_stands structs at t b behind)))
    (before_at a.first 12 (t && is_pointer (form_of a.value) && not (points_to_complete structs (form_of a.value))) (Beside D R)
    (λ h. all_stand (constraint_at a.first 12) (Beside D R) (stand_beside a.first D R
    (stand_at a.first at 19 c (λ h. before)) (move_stands structs a.first t b (both_before a.first at b.first before behind)))))

pub sum_unbroken : (structs : List Structure) (at : Place) (t : Bool) (a b : Operand) → t ≡ false → IsUnbroken (broken_sum structs at t a b)
sum_unbroken structs at t a b e =
    let c = t && are_pointers a.value b.value && not (alike_pointers (form_of a.value) (form_of b.value)) && not (is_one_null a.value b.value) in
    beside_unbroken (broken_move structs t a) (Beside (broken_difference at t a.value b.value) (broken_move structs t b)) (unmoved structs t a e)
    (beside_unbroken (broken_difference at t a.value b.value) (broken_move structs t b)
    (at_unbroken at 19 c (guarded t (are_pointers a.value b.value) (not (alike_pointers (form_of a.value) (form_of b.value))) (not (is_one_null a.value b.value)) e))
    (unmoved structs t b e))

sum_by : (structs : List Structure) (mark : Mark) (t w : Bool) (a b : Operand) (x : Meaning) → t ≡ w → (t ≡ true → is_scalar (form_of b.value) ≡ true) →
    Precedes a.first mark.at → Precedes mark.at b.first →
    Answers (Beside (At mark.at 9 (not t)) (Beside (broken_sum structs mark.at t a b) (broken_use structs b)))
    (unless (wants w mark.at 9) (unless (sum_fault structs mark.at a b) (Ok x)))
sum_by structs mark t w a b x e second before behind =
    let S = broken_sum structs mark.at t a b in
    let U = broken_use structs b in
    wanted_unless mark.at 9 (not t) w (Beside S U) (unless (sum_fault structs mark.at a b) (Ok x)) (ap not e)
    (λ h. fault_unless S U (sum_fault structs mark.at a b) (Ok x) (sum_named structs mark.at t a b (e ∙ h) before behind)
    (λ n. scalar_unbroken structs b (second (e ∙ h))) (before_unbroken S U (scalar_unbroken structs b (second (e ∙ h)))))
    (λ h. all_beside (constraint_at mark.at 9) S U (all_unbroken (constraint_at mark.at 9) S (sum_unbroken structs mark.at t a b (e ∙ h)))
    (all_stand (constraint_at mark.at 9) U (use_stands structs mark.at b behind)))

pub summands_same : (ia ib pa pb : Bool) → (ia && ib || pa && ib || ia && pb) ≡ (ia && ib || pa && ib || pb && ia)
summands_same true ib pa true = refl
summands_same true ib pa false = refl
summands_same false ib pa true = refl
summands_same false ib pa false = refl

pub second_added : (ia ib pa pb : Bool) → (ia && ib || pa && ib || ia && pb) ≡ true → (ib || pb) ≡ true
second_added ia true pa pb h = refl
second_added ia false pa true h = refl
second_added true false true false h = h
second_added true false false false h = h
second_added false false true false h = h
second_added false false false false h = h

pub second_subtracted : (ia ib pa pb : Bool) → (ia && ib || pa && ib || pa && pb) ≡ true → (ib || pb) ≡ true
second_subtracted ia true pa pb h = refl
second_subtracted ia false pa true h = refl
second_subtracted true false true false h = h
second_subtracted true false false false h = h
second_subtracted false false true false h = h
second_subtracted false false false false h = h

pub addition_first : (structs : List Structure) (mark : Mark) (a b : Operand) → Precedes a.first mark.at → Precedes mark.at b.first →
    Answers (Beside (At mark.at 9 (not (takes_summands a.value b.value))) (Beside (broken_sum structs mark.at (takes_summands a.value b.value) a b) (broken_use structs b)))
    (sum structs op.Add mark a b)
addition_first structs mark a b before behind =
    sum_by structs mark (takes_summands a.value b.value) (may_be_added op.Add (operand_form a) (operand_form b)) a b (a_value (added op.Add mark a.value b.value))
    (summands_same (is_integer (form_of a.value)) (is_integer (form_of b.value)) (is_pointer (form_of a.value)) (is_pointer (form_of b.value)))
    (second_added (is_integer (form_of a.value)) (is_integer (form_of b.value)) (is_pointer (form_of a.value)) (is_pointer (form_of b.value)))
    before behind

pub subtraction_first : (structs : List Structure) (mark : Mark) (a b : Operand) → Precedes a.first mark.at → Precedes mark.at b.first →
    Answers (Beside (At mark.at 9 (not (takes_difference a.value b.value))) (Beside (broken_sum structs mark.at (takes_difference a.value b.value) a b) (broken_use structs b)))
    (sum structs op.Sub mark a b)
subtraction_first structs mark a b before behind =
    sum_by structs mark (takes_difference a.value b.value) (may_be_added op.Sub (operand_form a) (operand_form b)) a b (a_value (added op.Sub mark a.value b.value)) refl
    (second_subtracted (is_integer (form_of a.value)) (is_integer (form_of b.value)) (is_pointer (form_of a.value)) (is_pointer (form_of b.value)))
    before behind

-- ---- `&&` and `||`

scalars_first : (structs : List Structure) (mark : Mark) (a b : Operand) (x : Meaning) → Precedes mark.at b.first →
    Answers (broken_logic structs mark.at a b) (unless (wants (is_scalar (form_of a.value) && is_scalar (form_of b.value)) mark.at 9) (Ok x))
scalars_first structs mark a b x lt =
    let w = is_scalar (form_of a.value) && is_scalar (form_of b.value) in
    wanted_unless mark.at 9 (not w) w (broken_use structs b) (Ok x) refl
    (λ h. scalar_unbroken structs b (and_parts (is_scalar (form_of a.value)) (is_scalar (form_of b.value)) h).1)
    (λ h. all_stand (constraint_at mark.at 9) (broken_use structs b) (use_stands structs mark.at b lt))

logic_stands : (structs : List Structure) (first at : Place) (a b : Operand) → Precedes first at → Precedes at b.first → StandBehind first (broken_logic structs at a b)
logic_stands structs first at a b before behind =
    let w = is_scalar (form_of a.value) && is_scalar (form_of b.value) in
    stand_beside first (At at 9 (not w)) (broken_use structs b) (stand_at first at 9 (not w) (λ e. before))
    (use_stands structs first b (both_before first at b.first before behind))

pub logic_first : (structs : List Structure) (mark : Mark) (a b : Operand) (x : Meaning) → Precedes a.first mark.at → Precedes mark.at b.first →
    Answers (Beside (broken_use structs a) (broken_logic structs mark.at a b))
    (unless (used_fault structs a) (unless (wants (is_scalar (form_of a.value) && is_scalar (form_of b.value)) mark.at 9) (Ok x)))
logic_first structs mark a b x before behind =
    fault_unless (broken_use structs a) (broken_logic structs mark.at a b) (used_fault structs a)
    (unless (wants (is_scalar (form_of a.value) && is_scalar (form_of b.value)) mark.at 9) (Ok x)) (use_named structs a)
    (λ n. scalars_first structs mark a b x behind)
    (before_use structs a (broken_logic structs mark.at a b) (λ e. logic_stands structs a.first mark.at a b before behind))

-- ---- `[]`

elements_same : (ia ib pa pb : Bool) → (pa && ib || ia && pb) ≡ (pa && ib || pb && ia)
elements_same true ib pa true = refl
elements_same true ib pa false = refl
elements_same false ib pa true = refl
elements_same false ib pa false = refl

second_element : (ia ib pa pb : Bool) → (pa && ib || ia && pb) ≡ true → (ib || pb) ≡ true
second_element ia true pa pb h = refl
second_element ia false pa true h = refl
second_element true false true false h = h
second_element true false false false h = h
second_element false false true false h = h
second_element false false false false h = h

pub element_first : (structs : List Structure) (mark : Mark) (a b : Operand) → Precedes a.first mark.at → Precedes mark.at b.first →
    Answers (broken_element structs mark.at a b)
    (unless (wants (are_moved (operand_form a) (operand_form b) || are_moved (operand_form b) (operand_form a)) mark.at 9)
    (unless (or_fault (moved_fault structs a) (moved_fault structs b)) (Ok (element_place mark a.value b.value))))
element_first structs mark a b before behind =
    let t = takes_element a.value b.value in
    let w = are_moved (operand_form a) (operand_form b) || are_moved (operand_form b) (operand_form a) in
    let L = broken_move structs t a in
    let R = broken_move structs t b in
    let U = broken_use structs b in
    let e = elements_same (is_integer (form_of a.value)) (is_integer (form_of b.value)) (is_pointer (form_of a.value)) (is_pointer (form_of b.value)) in
    let second = second_element (is_integer (form_of a.value)) (is_integer (form_of b.value)) (is_pointer (form_of a.value)) (is_pointer (form_of b.value)) in
    wanted_unless mark.at 9 (not t) w (Beside L (Beside R U)) (unless (or_fault (moved_fault structs a) (moved_fault structs b)) (Ok (element_place mark a.value b.value))) (ap not e)
    (λ h. fault_alone (Beside L (Beside R U)) (or_fault (moved_fault structs a) (moved_fault structs b)) (element_place mark a.value b.value)
    (fault_then L (Beside R U) (moved_fault structs a) (moved_fault structs b) (move_named structs t a (e ∙ h))
    (λ n. names_left R U (moved_fault structs b) (move_named structs t b (e ∙ h)) (scalar_unbroken structs b (second (e ∙ h))))
    (before_at a.first 12 (t && is_pointer (form_of a.value) && not (points_to_complete structs (form_of a.value))) (Beside R U)
    (λ k. all_stand (constraint_at a.first 12) (Beside R U) (stand_beside a.first R U
    (move_stands structs a.first t b (both_before a.first mark.at b.first before behind))
    (use_stands structs a.first b (both_before a.first mark.at b.first before behind)))))))
    (λ h. all_beside (constraint_at mark.at 9) L (Beside R U) (all_unbroken (constraint_at mark.at 9) L (unmoved structs t a (e ∙ h)))
    (all_beside (constraint_at mark.at 9) R U (all_unbroken (constraint_at mark.at 9) R (unmoved structs t b (e ∙ h)))
    (all_stand (constraint_at mark.at 9) U (use_stands structs mark.at b behind))))

scalar_if_pointer : (f : Form) (b : Bool) → is_pointer f ≡ b → is_scalar f ≡ false → is_pointer f ≡ false
scalar_if_pointer f true e h = absurd (both_ways (is_scalar f) h (or_right (is_integer f) (is_pointer f) e))
scalar_if_pointer f false e h = e

pub no_scalar_no_pointer : (f : Form) → is_scalar f ≡ false → is_pointer f ≡ false
no_scalar_no_pointer f h = scalar_if_pointer f (is_pointer f) refl h

pub index_first : (structs : List Structure) (mark : Mark) (a b : Operand) → Precedes a.first mark.at → Precedes mark.at b.first →
    Answers (Beside (broken_use structs a) (broken_element structs mark.at a b)) (index structs mark a b)
index_first structs mark a b before behind =
    let t = takes_element a.value b.value in
    let L = broken_move structs t a in
    let R = broken_move structs t b in
    let U = broken_use structs b in
    fault_unless (broken_use structs a) (broken_element structs mark.at a b) (used_fault structs a)
    (unless (wants (are_moved (operand_form a) (operand_form b) || are_moved (operand_form b) (operand_form a)) mark.at 9)
    (unless (or_fault (moved_fault structs a) (moved_fault structs b)) (Ok (element_place mark a.value b.value)))) (use_named structs a)
    (λ n. element_first structs mark a b before behind)
    (before_use structs a (broken_element structs mark.at a b) (λ h. stand_beside a.first (At mark.at 9 (not t)) (Beside L (Beside R U))
    (stand_at a.first mark.at 9 (not t) (λ e. before))
    (stand_beside a.first L (Beside R U) (stand_unbroken a.first L (no_pointer_unmoved structs t a (no_scalar_no_pointer (form_of a.value) h)))
    (stand_beside a.first R U (move_stands structs a.first t b (both_before a.first mark.at b.first before behind))
    (use_stands structs a.first b (both_before a.first mark.at b.first before behind))))))
