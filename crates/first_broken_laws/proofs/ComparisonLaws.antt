-- Comparisons name the first constraint that they break: two pointers agree, as the rules ask it, where they can be
-- compared with a null pointer constant in the type of the other.
use Rattle.std.proofs.Common.{◌≡◌, ◌∙◌, ap, sym, refl, Bool, true, false, ◌&&◌, ◌||◌, not, if◌then◌else◌, Ok, List, inl, inr, arith}
use Rattle.std.proofs.lemmas.Bool.{and_parts, or_cases, or_left, both_ways}
use Rattle.cake_base.specs.declared.places.Place.{Place}
use Rattle.model_types.specs.declared.numbers.BinOp.{BinOp}
use Rattle.model_types.specs.declared.marks.Mark.{Mark}
use Rattle.model_types.specs.Types.{CType, Form, Integer, Enum, Pointer, form_of_type}
use Rattle.model_types.specs.Compatible.{compatible}
use Rattle.model_types.specs.Structures.{Structure}
use Rattle.model_scopes.specs.DeclarationRules.{constraint_at}
use Rattle.model_core.specs.CoreTypes.{is_pointer, unqualified}
use Rattle.model_core.specs.SameTypes.{is_integer, is_null_constant, is_plain_void_pointer, is_void_pointer}
use Rattle.model_core.specs.TypedParts.{is_function, is_function_pointer, is_object_pointer, alike_pointers, comparable, ordered_pointers, same_promoted, takes}
use Rattle.model_core.specs.TypedExpr.{form_of}
use Rattle.model_core.specs.Core as unit
use Rattle.model_checking.specs.State.{unless}
use Rattle.model_checking.specs.Faults.{wants}
use Rattle.model_checking.specs.MadeCore.{in_common_type}
use Rattle.model_checking.specs.Meanings.{Meaning, a_value, Operand}
use Rattle.model_checking.specs.PointerRules.{beside_pointer, beside_void, comparison}
use Rattle.model_constraints.specs.Pairs.{At, Beside}
use Rattle.model_constraints.specs.BrokenValues.{broken_use}
use Rattle.model_constraints.specs.BrokenPointers.{compares_pointers, agree, broken_comparison}
use Rattle.model_constraints.specs.BrokenOperators.{are_integers, is_pointer_or_null, takes_compared}
use Rattle.first_broken_laws.specs.FirstNamed.{Answers, Precedes}
use Rattle.first_broken_laws.proofs.PairLaws.{all_here, all_beside, all_stand, at_unbroken, beside_unbroken, wanted_unless}
use Rattle.first_broken_laws.proofs.Operands.{use_stands, scalar_unbroken}
use Rattle.first_broken_laws.proofs.TypeFacts.{compatible_self, alike_function, void_bare, void_no_function, beside_form}
use Rattle.first_broken_laws.proofs.NullFacts.{null_form, scalar_of}

-- of an operand that is a null pointer constant
abbrev Null : Bool → Form → Type 0
Null null f = null ≡ true → is_integer f || is_plain_void_pointer f ≡ true

-- ---- two pointers in an order

and_one : (x : Bool) → x ≡ (x && true)
and_one true = refl
and_one false = refl

ordered_by : (c x y : Bool) → (c ≡ true → x ≡ y) → (c && not x && not y) ≡ (not x && c)
ordered_by false true y k = refl
ordered_by false false y k = refl
ordered_by true true y k = refl
ordered_by true false y k = ap not (sym (k refl))

pointers_order : (t u : CType) (na nb : Bool) → Null na (Pointer t) → Null nb (Pointer u) →
    ((na || nb || alike_pointers (Pointer t) (Pointer u)) && not (is_function_pointer (Pointer t)) && not (is_function_pointer (Pointer u)))
    ≡ ordered_pointers (if na then Pointer u else Pointer t) (if nb then Pointer t else Pointer u)
pointers_order t u true true ka kb = rw (void_no_function t (ka refl), void_no_function u (kb refl), void_bare t (ka refl), void_bare u (kb refl)) refl
pointers_order t u true false ka kb = rw (void_no_function t (ka refl), compatible_self (unqualified u)) (and_one (not (is_function (form_of_type u))))
pointers_order t u false true ka kb = rw (void_no_function u (kb refl), compatible_self (unqualified t)) refl
pointers_order t u false false ka kb =
    ordered_by (compatible (unqualified t) (unqualified u)) (is_function (form_of_type t)) (is_function (form_of_type u)) (alike_function t u)

-- of a pointer and an integer that is null
left_order : (t : CType) (fng : Bool) (f g : Form) → f ≡ Pointer t → g ≡ Pointer t → fng ≡ false →
    (not (is_function_pointer (Pointer t)) && not fng) ≡ ordered_pointers f g
left_order t fng f g e d n = rw (e, d, n, compatible_self (unqualified t)) refl

right_order : (t : CType) (f g : Form) → f ≡ Pointer t → g ≡ Pointer t → not (is_function_pointer (Pointer t)) ≡ ordered_pointers f g
right_order t f g e d = rw (e, d, compatible_self (unqualified t)) (and_one (not (is_function (form_of_type t))))

null_alike : (na nb al : Bool) → na ≡ true → (na || nb || al) ≡ true
null_alike true nb al e = refl
null_alike false nb al e = absurd (both_ways false refl e)

second_alike : (na nb al : Bool) → nb ≡ true → (na || nb || al) ≡ true
second_alike true nb al e = refl
second_alike false true al e = refl
second_alike false false al e = absurd (both_ways false refl e)

-- what the rules compare: each operand, or the type of the other where it is null and the other a pointer
abbrev left_form : Form → Form → Bool → Form
left_form f g na = if is_pointer g && na then g else f

abbrev right_form : Form → Form → Bool → Form
right_form f g nb = if is_pointer f && nb then f else g

pub order_same : (f g : Form) (na nb : Bool) → Null na f → Null nb g → is_pointer f || na ≡ true → is_pointer g || nb ≡ true → is_integer f && is_integer g ≡ false →
    ((na || nb || alike_pointers f g) && not (is_function_pointer f) && not (is_function_pointer g)) ≡ ordered_pointers (left_form f g na) (right_form f g nb)
order_same (Pointer t) (Pointer u) na nb ka kb ha hb n = pointers_order t u na nb ka kb
order_same (Pointer t) (Integer b) na nb ka kb ha hb n =
    rw (second_alike na nb false hb, hb) (left_order t false (Pointer t) (Pointer t) refl refl refl)
order_same (Pointer t) (Enum b d) na nb ka kb ha hb n =
    rw (second_alike na nb false hb, hb) (left_order t false (Pointer t) (Pointer t) refl refl refl)
order_same (Integer b) (Pointer u) na nb ka kb ha hb n = rw (null_alike na nb false ha, ha) (right_order u (Pointer u) (Pointer u) refl refl)
order_same (Enum b d) (Pointer u) na nb ka kb ha hb n = rw (null_alike na nb false ha, ha) (right_order u (Pointer u) (Pointer u) refl refl)
order_same (Integer b) (Integer c) na nb ka kb ha hb n = absurd (both_ways true n refl)
order_same (Integer b) (Enum c d) na nb ka kb ha hb n = absurd (both_ways true n refl)
order_same (Enum b d) (Integer c) na nb ka kb ha hb n = absurd (both_ways true n refl)
order_same (Enum b d) (Enum c e) na nb ka kb ha hb n = absurd (both_ways true n refl)
order_same (Pointer t) g na nb ka kb ha hb n = absurd (both_ways false refl (scalar_of g nb kb hb))
order_same (Integer b) g na nb ka kb ha hb n = absurd (both_ways false refl (scalar_of g nb kb hb))
order_same (Enum b d) g na nb ka kb ha hb n = absurd (both_ways false refl (scalar_of g nb kb hb))
order_same f g na nb ka kb ha hb n = absurd (both_ways false refl (scalar_of f na ka ha))

-- ---- two pointers that may be equal

alike_equal : (t : CType) → comparable (Pointer t) (Pointer t) ≡ true
alike_equal t = or_left (compatible (unqualified t) (unqualified t))
    (is_object_pointer (Pointer t) && is_object_pointer (Pointer t) && (is_void_pointer (Pointer t) || is_void_pointer (Pointer t))) (compatible_self (unqualified t))

void_equal : (t u : CType) → is_plain_void_pointer (Pointer t) ≡ true → is_plain_void_pointer (Pointer u) ≡ true → comparable (Pointer u) (Pointer t) ≡ true
void_equal t u h k = or_left (compatible (unqualified u) (unqualified t))
    (is_object_pointer (Pointer u) && is_object_pointer (Pointer t) && (is_void_pointer (Pointer u) || is_void_pointer (Pointer t)))
    (rw (void_bare t h, void_bare u k) refl)

pointers_equal : (t u : CType) (na nb : Bool) → Null na (Pointer t) → Null nb (Pointer u) →
    (na || nb || comparable (Pointer t) (Pointer u)) ≡ comparable (if na then Pointer u else Pointer t) (if nb then Pointer t else Pointer u)
pointers_equal t u true true ka kb = sym (void_equal t u (ka refl) (kb refl))
pointers_equal t u true false ka kb = sym (alike_equal u)
pointers_equal t u false true ka kb = sym (alike_equal t)
pointers_equal t u false false ka kb = refl

pub equal_same : (f g : Form) (na nb : Bool) → Null na f → Null nb g → is_pointer f || na ≡ true → is_pointer g || nb ≡ true → is_integer f && is_integer g ≡ false →
    (na || nb || comparable f g) ≡ comparable (left_form f g na) (right_form f g nb)
equal_same (Pointer t) (Pointer u) na nb ka kb ha hb n = pointers_equal t u na nb ka kb
equal_same (Pointer t) (Integer b) na nb ka kb ha hb n = rw (second_alike na nb (comparable (Pointer t) (Integer b)) hb, hb) (sym (alike_equal t))
equal_same (Pointer t) (Enum b d) na nb ka kb ha hb n = rw (second_alike na nb (comparable (Pointer t) (Enum b d)) hb, hb) (sym (alike_equal t))
equal_same (Integer b) (Pointer u) na nb ka kb ha hb n = rw (null_alike na nb (comparable (Integer b) (Pointer u)) ha, ha) (sym (alike_equal u))
equal_same (Enum b d) (Pointer u) na nb ka kb ha hb n = rw (null_alike na nb (comparable (Enum b d) (Pointer u)) ha, ha) (sym (alike_equal u))
equal_same (Integer b) (Integer c) na nb ka kb ha hb n = absurd (both_ways true n refl)
equal_same (Integer b) (Enum c d) na nb ka kb ha hb n = absurd (both_ways true n refl)
equal_same (Enum b d) (Integer c) na nb ka kb ha hb n = absurd (both_ways true n refl)
equal_same (Enum b d) (Enum c e) na nb ka kb ha hb n = absurd (both_ways true n refl)
equal_same (Pointer t) g na nb ka kb ha hb n = absurd (both_ways false refl (scalar_of g nb kb hb))
equal_same (Integer b) g na nb ka kb ha hb n = absurd (both_ways false refl (scalar_of g nb kb hb))
equal_same (Enum b d) g na nb ka kb ha hb n = absurd (both_ways false refl (scalar_of g nb kb hb))
equal_same f g na nb ka kb ha hb n = absurd (both_ways false refl (scalar_of f na ka ha))

-- ---- the operators

unpromoted : (f g : Form) → is_integer f ≡ false → same_promoted f g ≡ false
unpromoted (Integer b) g h = absurd (both_ways true h refl)
unpromoted f g h = refl

-- where not both are integers, none is left as one
left_no_integer : (f g : Form) (na nb : Bool) → Null na f → Null nb g → is_pointer f || na ≡ true → is_pointer g || nb ≡ true → is_integer f && is_integer g ≡ false →
    is_integer (left_form f g na) ≡ false
left_no_integer (Pointer t) (Pointer u) true nb ka kb ha hb n = refl
left_no_integer (Pointer t) (Pointer u) false nb ka kb ha hb n = refl
left_no_integer (Pointer t) g na nb ka kb ha hb n = refl
left_no_integer (Integer b) (Pointer u) na nb ka kb ha hb n = rw ha refl
left_no_integer (Enum b d) (Pointer u) na nb ka kb ha hb n = rw ha refl
left_no_integer (Integer b) (Integer c) na nb ka kb ha hb n = absurd (both_ways true n refl)
left_no_integer (Integer b) (Enum c d) na nb ka kb ha hb n = absurd (both_ways true n refl)
left_no_integer (Enum b d) (Integer c) na nb ka kb ha hb n = absurd (both_ways true n refl)
left_no_integer (Enum b d) (Enum c e) na nb ka kb ha hb n = absurd (both_ways true n refl)
left_no_integer (Integer b) g na nb ka kb ha hb n = absurd (both_ways false refl (scalar_of g nb kb hb))
left_no_integer (Enum b d) g na nb ka kb ha hb n = absurd (both_ways false refl (scalar_of g nb kb hb))
left_no_integer f g na nb ka kb ha hb n = absurd (both_ways false refl (scalar_of f na ka ha))

abbrev Related : (by_order : Bool) → Form → Form → Bool
Related true f g = ordered_pointers f g
Related false f g = comparable f g

agree_same : (by_order : Bool) (a b : unit.Expr) → is_pointer_or_null a ≡ true → is_pointer_or_null b ≡ true → is_integer (form_of a) && is_integer (form_of b) ≡ false →
    agree by_order a b ≡ Related by_order (left_form (form_of a) (form_of b) (is_null_constant a)) (right_form (form_of a) (form_of b) (is_null_constant b))
agree_same true a b ha hb n = order_same (form_of a) (form_of b) (is_null_constant a) (is_null_constant b) (null_form a) (null_form b) ha hb n
agree_same false a b ha hb n = equal_same (form_of a) (form_of b) (is_null_constant a) (is_null_constant b) (null_form a) (null_form b) ha hb n

-- an operator that takes what is related so
abbrev Takes : BinOp → (by_order : Bool) → Type 0
Takes o by_order = (f g : Form) → is_integer f ≡ false → takes o f g ≡ Related by_order f g

agree_takes : (o : BinOp) (by_order : Bool) (a b : unit.Expr) → Takes o by_order → is_pointer_or_null a ≡ true → is_pointer_or_null b ≡ true →
    is_integer (form_of a) && is_integer (form_of b) ≡ false → agree by_order a b ≡ takes o (form_of (beside_pointer b a)) (form_of (beside_pointer a b))
agree_takes o by_order a b k ha hb n =
    let f = form_of a in
    let g = form_of b in
    let l = left_form f g (is_null_constant a) in
    let r = right_form f g (is_null_constant b) in
    agree_same by_order a b ha hb n ∙ sym (k l r (left_no_integer f g (is_null_constant a) (is_null_constant b) (null_form a) (null_form b) ha hb n))
    ∙ sym (ap (λ (x : Form). takes o x r) (beside_form b a)) ∙ sym (ap (λ (x : Form). takes o (form_of (beside_pointer b a)) x) (beside_form a b))

no_pointers : (x y i z : Bool) → i ≡ true → (x && y && not i && z) ≡ false
no_pointers true true i z e = rw e refl
no_pointers true false i z e = refl
no_pointers false y i z e = refl

only_last : (x y i z : Bool) → x ≡ true → y ≡ true → i ≡ false → (x && y && not i && z) ≡ z
only_last x y i z e d n = rw (e, d, n) refl

both_pointers : (a b : unit.Expr) → takes_compared a b ≡ true → are_integers a b ≡ false → (is_pointer_or_null a ≡ true) × (is_pointer_or_null b ≡ true)
both_pointers a b w n = elim (or_cases (are_integers a b) (is_pointer_or_null a && is_pointer_or_null b) w) [
  | inl integers ↦ absurd (both_ways (are_integers a b) n integers)
  | inr pointers ↦ and_parts (is_pointer_or_null a) (is_pointer_or_null b) pointers
]

compared_by : (structs : List Structure) (o : BinOp) (by_order : Bool) (at : Place) (a b : Operand) (x y : Meaning) (i : Bool) → Takes o by_order →
    are_integers a.value b.value ≡ i → takes_compared a.value b.value ≡ true → Precedes at b.first →
    Answers (Beside (broken_comparison by_order at a.value b.value) (broken_use structs b))
    (if i then Ok x else unless (wants (takes o (form_of (beside_pointer b.value a.value)) (form_of (beside_pointer a.value b.value))) at 19) (Ok y))
compared_by structs o by_order at a b x y true k e w lt =
    beside_unbroken (broken_comparison by_order at a.value b.value) (broken_use structs b)
    (at_unbroken at 19 (compares_pointers a.value b.value && not (agree by_order a.value b.value))
    (no_pointers (is_pointer_or_null a.value) (is_pointer_or_null b.value) (are_integers a.value b.value) (not (agree by_order a.value b.value)) e))
    (scalar_unbroken structs b (or_left (is_integer (form_of b.value)) (is_pointer (form_of b.value)) (and_parts (is_integer (form_of a.value)) (is_integer (form_of b.value)) e).1))
compared_by structs o by_order at a b x y false k e w lt =
    let both = both_pointers a.value b.value w e in
    let c = compares_pointers a.value b.value && not (agree by_order a.value b.value) in
    let t = takes o (form_of (beside_pointer b.value a.value)) (form_of (beside_pointer a.value b.value)) in
    wanted_unless at 19 c t (broken_use structs b) (Ok y)
    (only_last (is_pointer_or_null a.value) (is_pointer_or_null b.value) (are_integers a.value b.value) (not (agree by_order a.value b.value)) both.0 both.1 e
    ∙ ap not (agree_takes o by_order a.value b.value k both.0 both.1 e))
    (λ h. scalar_unbroken structs b (scalar_of (form_of b.value) (is_null_constant b.value) (null_form b.value) both.1))
    (λ h. all_stand (constraint_at at 19) (broken_use structs b) (use_stands structs at b lt))

pub comparison_first : (structs : List Structure) (o : BinOp) (by_order : Bool) (mark : Mark) (a b : Operand) → Takes o by_order → Precedes mark.at b.first →
    Answers (Beside (At mark.at 9 (not (takes_compared a.value b.value))) (Beside (broken_comparison by_order mark.at a.value b.value) (broken_use structs b)))
    (comparison o mark a b)
comparison_first structs o by_order mark a b k lt =
    let p = beside_pointer b.value a.value in
    let q = beside_pointer a.value b.value in
    let x = a_value (in_common_type o mark a.value b.value) in
    let y = a_value (unit.Binary o (beside_void q p) (beside_void p q) mark) in
    let i = are_integers a.value b.value in
    let w = takes_compared a.value b.value in
    let C = broken_comparison by_order mark.at a.value b.value in
    wanted_unless mark.at 9 (not w) w (Beside C (broken_use structs b))
    (if i then Ok x else unless (wants (takes o (form_of p) (form_of q)) mark.at 19) (Ok y)) refl
    (λ h. compared_by structs o by_order mark.at a b x y i k refl h lt)
    (λ h. all_beside (constraint_at mark.at 9) C (broken_use structs b)
    (all_here mark.at 9 19 (compares_pointers a.value b.value && not (agree by_order a.value b.value)) (omega arith))
    (all_stand (constraint_at mark.at 9) (broken_use structs b) (use_stands structs mark.at b lt)))

pub takes_order : (f g : Form) → is_integer f ≡ false → same_promoted f g || ordered_pointers f g ≡ ordered_pointers f g
takes_order f g n = ap (λ x. x || ordered_pointers f g) (unpromoted f g n)

pub takes_equal : (f g : Form) → is_integer f ≡ false → same_promoted f g || comparable f g ≡ comparable f g
takes_equal f g n = ap (λ x. x || comparable f g) (unpromoted f g n)
