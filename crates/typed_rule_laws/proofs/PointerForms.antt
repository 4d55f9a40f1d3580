-- What the rules of sums, comparisons and elements make is typed.
use Rattle.std.proofs.Common.{◌≡◌, refl, Bool, true, false, ◌&&◌, ◌||◌, not, if◌then◌else◌, None, Result, Ok, List, inl, inr}
use Rattle.std.proofs.lemmas.Bool.{and_parts, and_from, or_cases, or_left, or_right, both_ways}
use Rattle.cake_base.specs.declared.places.Place.{Place}
use Rattle.cake_base.specs.declared.rules.Fault.{Fault}
use Rattle.model_types.specs.declared.numbers.BinOp.{BinOp}
use Rattle.model_types.specs.declared.numbers.BinOp.TheVariants as op
use Rattle.model_types.specs.declared.marks.Mark.{Mark}
use Rattle.model_types.specs.Types.{Form}
use Rattle.model_types.specs.Structures.{Structure}
use Rattle.model_types.specs.Conversions.{is_shift}
use Rattle.model_core.specs.CoreTypes.{type_of, is_pointer}
use Rattle.model_core.specs.SameTypes.{is_integer, is_null_constant}
use Rattle.model_core.specs.TypedParts.{is_object_pointer, alike_pointers, takes, same_promoted}
use Rattle.model_core.specs.TypedExpr.{form_of, is_typed}
use Rattle.model_core.specs.Core as unit
use Rattle.model_checking.specs.State.{unless}
use Rattle.model_checking.specs.Meanings.{Meaning, a_place, a_value, Operand}
use Rattle.model_checking.specs.Faults.{wants, or_fault}
use Rattle.model_checking.specs.MadeCore.{are_integers, in_common_type, used_fault}
use Rattle.model_checking.specs.PointerRules.{moved_fault, are_moved, may_be_added, may_be_apart, sum_fault, added, sum, element_place, index}
use Rattle.typed_rule_laws.specs.TypedMeanings.{is_typed_value, is_typed_meaning, is_typed_operand, GivesTyped}
use Rattle.typed_rule_laws.proofs.Values.{value_parts, value_from, value_type_from}
use Rattle.typed_rule_laws.proofs.Converted.{common_is_typed, binary_value_type}
use Rattle.typed_rule_laws.proofs.NullConstants.{integer_not_pointer, null_not_moved}
use Rattle.typed_rule_laws.proofs.Outcomes.{where_wanted, where_none, neither, wanted, integer_operand, pointer_operand}
use Rattle.typed_rule_laws.proofs.UnaryForms.{IsTyped, place_from, pointee_possible, object_pointee, moved, moved_object}

-- a binary operation on typed values
pub binary_from : (structs : List Structure) (o : BinOp) (a b : unit.Expr) (mark : Mark) → is_typed_value structs a ≡ true → is_typed_value structs b ≡ true →
    takes o (form_of a) (form_of b) ≡ true → is_typed_value structs (unit.Binary o a b mark) ≡ true
binary_from structs o a b mark ha hb t =
    let pa = value_parts structs a ha in
    let pb = value_parts structs b hb in
    value_from structs (unit.Binary o a b mark)
    (and_from (is_typed a && is_typed b) (takes o (form_of a) (form_of b)) (and_from (is_typed a) (is_typed b) pa.typed_by pb.typed_by) t)
    (binary_value_type structs o (type_of a) (type_of b)
    (value_type_from structs (type_of a) pa.possible pa.of_value) (value_type_from structs (type_of b) pb.possible pb.of_value))

-- ---- `+` and `-`

no_integers : (f g : Form) → are_integers f g ≡ false → are_integers f g ≡ true → ⊥
no_integers f g e h = both_ways (are_integers f g) e h

added_takes : (f g : Form) → may_be_added op.Add f g ≡ true → are_integers f g ≡ false → (is_pointer f ≡ true → is_object_pointer f ≡ true) →
    (is_pointer g ≡ true → is_object_pointer g ≡ true) → takes op.Add f g ≡ true
added_takes f g h e of og = elim (or_cases (are_integers f g || are_moved f g) (are_moved g f) h) [
  | inl front ↦ elim (or_cases (are_integers f g) (are_moved f g) front) [
    | inl integers ↦ absurd (no_integers f g e integers)
    | inr moves ↦
        let parts = and_parts (is_pointer f) (is_integer g) moves in
        or_left (same_promoted f g || is_object_pointer f && is_integer g) (is_integer f && is_object_pointer g)
        (or_right (same_promoted f g) (is_object_pointer f && is_integer g) (and_from (is_object_pointer f) (is_integer g) (of parts.0) parts.1))
  ]
  | inr moves ↦
      let parts = and_parts (is_pointer g) (is_integer f) moves in
      or_right (same_promoted f g || is_object_pointer f && is_integer g) (is_integer f && is_object_pointer g)
      (and_from (is_integer f) (is_object_pointer g) parts.1 (og parts.0))
]

subtracted_takes : (f g : Form) → may_be_added op.Sub f g ≡ true → are_integers f g ≡ false → (is_pointer f ≡ true → is_object_pointer f ≡ true) →
    (is_pointer f ≡ true → is_pointer g ≡ true → alike_pointers f g ≡ true) → takes op.Sub f g ≡ true
subtracted_takes f g h e of alike = elim (or_cases (are_integers f g || are_moved f g) (is_pointer f && is_pointer g) h) [
  | inl front ↦ elim (or_cases (are_integers f g) (are_moved f g) front) [
    | inl integers ↦ absurd (no_integers f g e integers)
    | inr moves ↦
        let parts = and_parts (is_pointer f) (is_integer g) moves in
        or_left (same_promoted f g || is_object_pointer f && is_integer g) (is_object_pointer f && alike_pointers f g)
        (or_right (same_promoted f g) (is_object_pointer f && is_integer g) (and_from (is_object_pointer f) (is_integer g) (of parts.0) parts.1))
  ]
  | inr pointers ↦
      let parts = and_parts (is_pointer f) (is_pointer g) pointers in
      or_right (same_promoted f g || is_object_pointer f && is_integer g) (is_object_pointer f && alike_pointers f g)
      (and_from (is_object_pointer f) (alike_pointers f g) (of parts.0) (alike parts.0 parts.1))
]

not_apart : (both : Bool) → both ≡ true → not both ≡ true → ⊥
not_apart true e h = both_ways false refl h
not_apart false e h = both_ways false refl e

apart_alike : (structs : List Structure) (a b : Operand) → may_be_apart a.value b.value ≡ true → moved_fault structs a ≡ None → moved_fault structs b ≡ None →
    is_pointer (form_of a.value) ≡ true → is_pointer (form_of b.value) ≡ true → alike_pointers (form_of a.value) (form_of b.value) ≡ true
apart_alike structs a b h ma mb pa pb =
    let both = is_pointer (form_of a.value) && is_pointer (form_of b.value) in
    let alike = alike_pointers (form_of a.value) (form_of b.value) in
    elim (or_cases (not both || alike || is_null_constant a.value) (is_null_constant b.value) h) [
      | inr null ↦ absurd (null_not_moved structs b.value null pb (moved structs b mb pb))
      | inl front ↦ elim (or_cases (not both || alike) (is_null_constant a.value) front) [
        | inr null ↦ absurd (null_not_moved structs a.value null pa (moved structs a ma pa))
        | inl rest ↦ elim (or_cases (not both) alike rest) [
          | inl apart ↦ absurd (not_apart both (and_from (is_pointer (form_of a.value)) (is_pointer (form_of b.value)) pa pb) apart)
          | inr same ↦ same
        ]
      ]
    ]

pub record SumParts (structs : List Structure) (at : Place) (a b : Operand) : Type 0 where
  pub left : moved_fault structs a ≡ None
  pub apart : may_be_apart a.value b.value ≡ true
  pub right : moved_fault structs b ≡ None

pub sum_parts : (structs : List Structure) (at : Place) (a b : Operand) → sum_fault structs at a b ≡ None → SumParts structs at a b
sum_parts structs at a b h =
    let first = neither (moved_fault structs a) (or_fault (wants (may_be_apart a.value b.value) at 19) (moved_fault structs b)) h in
    let second = neither (wants (may_be_apart a.value b.value) at 19) (moved_fault structs b) first.second in
    record { left = first.first; apart = wanted (may_be_apart a.value b.value) at 19 second.first; right = second.second }

-- operands that may be added are integers or pointers, and so typed
integers_typed : (structs : List Structure) (a b : Operand) → is_typed_operand structs a.value ≡ true → is_typed_operand structs b.value ≡ true →
    are_integers (form_of a.value) (form_of b.value) ≡ true → (is_typed_value structs a.value ≡ true) × (is_typed_value structs b.value ≡ true)
integers_typed structs a b ha hb h =
    let parts = and_parts (is_integer (form_of a.value)) (is_integer (form_of b.value)) h in
    (integer_operand structs a.value ha parts.0, integer_operand structs b.value hb parts.1)

moved_typed : (structs : List Structure) (a b : Operand) → is_typed_operand structs a.value ≡ true → is_typed_operand structs b.value ≡ true →
    are_moved (form_of a.value) (form_of b.value) ≡ true → (is_typed_value structs a.value ≡ true) × (is_typed_value structs b.value ≡ true)
moved_typed structs a b ha hb h =
    let parts = and_parts (is_pointer (form_of a.value)) (is_integer (form_of b.value)) h in
    (pointer_operand structs a.value ha parts.0, integer_operand structs b.value hb parts.1)

pub either_moved_typed : (structs : List Structure) (a b : Operand) → is_typed_operand structs a.value ≡ true → is_typed_operand structs b.value ≡ true →
    are_moved (form_of a.value) (form_of b.value) || are_moved (form_of b.value) (form_of a.value) ≡ true →
    (is_typed_value structs a.value ≡ true) × (is_typed_value structs b.value ≡ true)
either_moved_typed structs a b ha hb h = elim (or_cases (are_moved (form_of a.value) (form_of b.value)) (are_moved (form_of b.value) (form_of a.value)) h) [
  | inl moves ↦ moved_typed structs a b ha hb moves
  | inr moves ↦ let typed = moved_typed structs b a hb ha moves in (typed.1, typed.0)
]

pub added_typed : (structs : List Structure) (a b : Operand) → is_typed_operand structs a.value ≡ true → is_typed_operand structs b.value ≡ true →
    may_be_added op.Add (form_of a.value) (form_of b.value) ≡ true → (is_typed_value structs a.value ≡ true) × (is_typed_value structs b.value ≡ true)
added_typed structs a b ha hb h =
    let f = form_of a.value in
    let g = form_of b.value in
    elim (or_cases (are_integers f g || are_moved f g) (are_moved g f) h) [
      | inl front ↦ elim (or_cases (are_integers f g) (are_moved f g) front) [
        | inl integers ↦ integers_typed structs a b ha hb integers
        | inr moves ↦ moved_typed structs a b ha hb moves
      ]
      | inr moves ↦ let typed = moved_typed structs b a hb ha moves in (typed.1, typed.0)
    ]

pub subtracted_typed : (structs : List Structure) (a b : Operand) → is_typed_operand structs a.value ≡ true → is_typed_operand structs b.value ≡ true →
    may_be_added op.Sub (form_of a.value) (form_of b.value) ≡ true → (is_typed_value structs a.value ≡ true) × (is_typed_value structs b.value ≡ true)
subtracted_typed structs a b ha hb h =
    let f = form_of a.value in
    let g = form_of b.value in
    elim (or_cases (are_integers f g || are_moved f g) (is_pointer f && is_pointer g) h) [
      | inl front ↦ elim (or_cases (are_integers f g) (are_moved f g) front) [
        | inl integers ↦ integers_typed structs a b ha hb integers
        | inr moves ↦ moved_typed structs a b ha hb moves
      ]
      | inr pointers ↦
          let parts = and_parts (is_pointer f) (is_pointer g) pointers in
          (pointer_operand structs a.value ha parts.0, pointer_operand structs b.value hb parts.1)
    ]

added_by : (structs : List Structure) (o : BinOp) (mark : Mark) (a b : unit.Expr) (integers : Bool) → are_integers (form_of a) (form_of b) ≡ integers → is_shift o ≡ false →
    is_typed_value structs a ≡ true → is_typed_value structs b ≡ true → (integers ≡ false → takes o (form_of a) (form_of b) ≡ true) →
    is_typed_value structs (if integers then in_common_type o mark a b else unit.Binary o a b mark) ≡ true
added_by structs o mark a b true e s ha hb t =
    let parts = and_parts (is_integer (form_of a)) (is_integer (form_of b)) e in
    common_is_typed structs o mark a b s ha hb parts.0 parts.1
added_by structs o mark a b false e s ha hb t = binary_from structs o a b mark ha hb (t refl)

pub addition_is_typed : (structs : List Structure) (mark : Mark) (a b : Operand) → is_typed_operand structs a.value ≡ true → is_typed_operand structs b.value ≡ true →
    GivesTyped structs (sum structs op.Add mark a b)
addition_is_typed structs mark a b ha hb =
    where_wanted (IsTyped structs) (may_be_added op.Add (form_of a.value) (form_of b.value)) mark.at 9
    (unless (sum_fault structs mark.at a b) (Ok (a_value (added op.Add mark a.value b.value)))) (λ w.
    where_none (IsTyped structs) (sum_fault structs mark.at a b) (Ok (a_value (added op.Add mark a.value b.value))) (λ n.
    let typed = added_typed structs a b ha hb w in
    let parts = sum_parts structs mark.at a b n in
    added_by structs op.Add mark a.value b.value (are_integers (form_of a.value) (form_of b.value)) refl refl typed.0 typed.1 (λ e.
    added_takes (form_of a.value) (form_of b.value) w e (moved_object structs a parts.left) (moved_object structs b parts.right))))

pub subtraction_is_typed : (structs : List Structure) (mark : Mark) (a b : Operand) → is_typed_operand structs a.value ≡ true → is_typed_operand structs b.value ≡ true →
    GivesTyped structs (sum structs op.Sub mark a b)
subtraction_is_typed structs mark a b ha hb =
    where_wanted (IsTyped structs) (may_be_added op.Sub (form_of a.value) (form_of b.value)) mark.at 9
    (unless (sum_fault structs mark.at a b) (Ok (a_value (added op.Sub mark a.value b.value)))) (λ w.
    where_none (IsTyped structs) (sum_fault structs mark.at a b) (Ok (a_value (added op.Sub mark a.value b.value))) (λ n.
    let typed = subtracted_typed structs a b ha hb w in
    let parts = sum_parts structs mark.at a b n in
    added_by structs op.Sub mark a.value b.value (are_integers (form_of a.value) (form_of b.value)) refl refl typed.0 typed.1 (λ e.
    subtracted_takes (form_of a.value) (form_of b.value) w e (moved_object structs a parts.left) (apart_alike structs a b parts.apart parts.left parts.right))))

-- ---- `[]`

index_counted : (f g : Form) → is_pointer g ≡ true → are_moved f g || are_moved g f ≡ true → is_integer f ≡ true
index_counted f g p h = elim (or_cases (are_moved f g) (are_moved g f) h) [
  | inl moves ↦ absurd (both_ways (is_pointer g) (integer_not_pointer g (and_parts (is_pointer f) (is_integer g) moves).1) p)
  | inr moves ↦ (and_parts (is_pointer g) (is_integer f) moves).1
]

array_first : (f g : Form) → is_pointer g ≡ false → are_moved f g || are_moved g f ≡ true → (is_pointer f ≡ true) × (is_integer g ≡ true)
array_first f g p h = elim (or_cases (are_moved f g) (are_moved g f) h) [
  | inl moves ↦ and_parts (is_pointer f) (is_integer g) moves
  | inr moves ↦ absurd (both_ways (is_pointer g) p (and_parts (is_pointer g) (is_integer f) moves).0)
]

element_by : (structs : List Structure) (mark : Mark) (a b : Operand) (is_second : Bool) → is_pointer (form_of b.value) ≡ is_second →
    are_moved (form_of a.value) (form_of b.value) || are_moved (form_of b.value) (form_of a.value) ≡ true →
    moved_fault structs a ≡ None → moved_fault structs b ≡ None → is_typed_value structs a.value ≡ true → is_typed_value structs b.value ≡ true →
    is_typed_meaning structs (a_place (unit.Index is_second a.value b.value mark) None) ≡ true
element_by structs mark a b true e h ma mb ha hb =
    let pa = value_parts structs a.value ha in
    let pb = value_parts structs b.value hb in
    let object = moved_object structs b mb e in
    place_from structs (unit.Index true a.value b.value mark)
    (rw (pa.typed_by, pb.typed_by, index_counted (form_of a.value) (form_of b.value) e h, object) refl)
    (pointee_possible structs (type_of b.value) pb.possible) (object_pointee (form_of b.value) object)
element_by structs mark a b false e h ma mb ha hb =
    let pa = value_parts structs a.value ha in
    let pb = value_parts structs b.value hb in
    let parts = array_first (form_of a.value) (form_of b.value) e h in
    let object = moved_object structs a ma parts.0 in
    place_from structs (unit.Index false a.value b.value mark)
    (rw (pa.typed_by, pb.typed_by, object, parts.1) refl)
    (pointee_possible structs (type_of a.value) pa.possible) (object_pointee (form_of a.value) object)

pub index_is_typed : (structs : List Structure) (mark : Mark) (a b : Operand) → is_typed_operand structs a.value ≡ true → is_typed_operand structs b.value ≡ true →
    GivesTyped structs (index structs mark a b)
index_is_typed structs mark a b ha hb =
    let may = are_moved (form_of a.value) (form_of b.value) || are_moved (form_of b.value) (form_of a.value) in
    let moves = or_fault (moved_fault structs a) (moved_fault structs b) in
    let made : Result Meaning Fault = Ok (element_place mark a.value b.value) in
    where_none (IsTyped structs) (used_fault structs a) (unless (wants may mark.at 9) (unless moves made)) (λ u.
    where_wanted (IsTyped structs) may mark.at 9 (unless moves made) (λ w.
    where_none (IsTyped structs) moves made (λ n.
    let faults = neither (moved_fault structs a) (moved_fault structs b) n in
    let typed = either_moved_typed structs a b ha hb w in
    element_by structs mark a b (is_pointer (form_of b.value)) refl w faults.first faults.second typed.0 typed.1)))
