-- What `+` and `-` take.
use Rattle.std.proofs.Common.{◌≡◌, ◌∙◌, ap, sym, refl, Bool, true, false, ◌&&◌, ◌||◌, not, Option, None, List, inl, inr}
use Rattle.std.proofs.lemmas.Bool.{and_parts, and_from, or_cases, or_left, or_right, both_ways}
use Rattle.cake_base.specs.declared.places.Place.{Place}
use Rattle.cake_base.specs.declared.rules.Fault.{Fault}
use Rattle.model_types.specs.declared.numbers.BinOp.{BinOp}
use Rattle.model_types.specs.declared.numbers.BinOp.TheVariants as op
use Rattle.model_types.specs.Types.{CType, Form, form_of_type}
use Rattle.model_types.specs.Structures.{Structure}
use Rattle.model_types.specs.Conversions.{is_shift}
use Rattle.model_core.specs.CoreTypes.{is_pointer, type_of}
use Rattle.model_core.specs.SameTypes.{is_integer, is_null_constant}
use Rattle.model_core.specs.TypedParts.{is_object_pointer, alike_pointers, takes, same_promoted}
use Rattle.model_core.specs.TypedExpr.{form_of}
use Rattle.model_checking.specs.Meanings.{Operand}
use Rattle.model_checking.specs.MadeCore.{are_integers}
use Rattle.model_checking.specs.PointerRules.{moved_fault, are_moved, may_be_added, may_be_apart, sum_fault}
use Rattle.typed_rule_laws.proofs.NullConstants.{null_not_moved}
use Rattle.typed_rule_laws.proofs.UnaryForms.{moved, moved_object}
use Rattle.typed_rule_laws.proofs.PointerForms.{sum_parts}
use Rattle.check_operators.specs.Rules.{is_sum}

pub sum_is_no_shift : (o : BinOp) → is_sum o ≡ true → is_shift o ≡ false
sum_is_no_shift op.Mul h = cc
sum_is_no_shift op.Div h = cc
sum_is_no_shift op.Rem h = cc
sum_is_no_shift op.Add h = refl
sum_is_no_shift op.Sub h = refl
sum_is_no_shift op.ShiftLeft h = cc
sum_is_no_shift op.ShiftRight h = cc
sum_is_no_shift op.Less h = cc
sum_is_no_shift op.Greater h = cc
sum_is_no_shift op.LessEqual h = cc
sum_is_no_shift op.GreaterEqual h = cc
sum_is_no_shift op.Equal h = cc
sum_is_no_shift op.NotEqual h = cc
sum_is_no_shift op.BitAnd h = cc
sum_is_no_shift op.BitXor h = cc
sum_is_no_shift op.BitOr h = cc

no_integers : (f g : Form) → are_integers f g ≡ false → are_integers f g ≡ true → ⊥
no_integers f g e h = both_ways (are_integers f g) e h

added_takes : (f g : Form) → may_be_added op.Add f g ≡ true → are_integers f g ≡ false → (is_pointer f ≡ true → is_object_pointer f ≡ true) →
    (is_pointer g ≡ true → is_object_pointer g ≡ true) → takes op.Add f g ≡ true
added_takes f g h e of og = elim (or_cases (are_integers f g || are_moved f g) (are_moved g f) h) [
  | inl front ↦ elim (or_cases (are_integers f g) (are_moved f g) front) [
    | inl integers ↦ absurd (no_integers f g e integers)
    | inr moves ↦
        let parts = and_parts (is_pointer f) (is_integer g) moves in
        or_left (same_promoted f g || is_object_pointer f && is_integer g) (is_integer f && is_object_pointer g)
        (or_right (same_promoted f g) (is_object_pointer f && is_integer g) (and_from (is_object_pointer f) (is_integer g) (of parts.0) parts.1))
  ]
  | inr moves ↦
      let parts = and_parts (is_pointer g) (is_integer f) moves in
      or_right (same_promoted f g || is_object_pointer f && is_integer g) (is_integer f && is_object_pointer g)
      (and_from (is_integer f) (is_object_pointer g) parts.1 (og parts.0))
]

subtracted_takes : (f g : Form) → may_be_added op.Sub f g ≡ true → are_integers f g ≡ false → (is_pointer f ≡ true → is_object_pointer f ≡ true) →
    (is_pointer f ≡ true → is_pointer g ≡ true → alike_pointers f g ≡ true) → takes op.Sub f g ≡ true
subtracted_takes f g h e of alike = elim (or_cases (are_integers f g || are_moved f g) (is_pointer f && is_pointer g) h) [
  | inl front ↦ elim (or_cases (are_integers f g) (are_moved f g) front) [
    | inl integers ↦ absurd (no_integers f g e integers)
    | inr moves ↦
        let parts = and_parts (is_pointer f) (is_integer g) moves in
        or_left (same_promoted f g || is_object_pointer f && is_integer g) (is_object_pointer f && alike_pointers f g)
        (or_right (same_promoted f g) (is_object_pointer f && is_integer g) (and_from (is_object_pointer f) (is_integer g) (of parts.0) parts.1))
  ]
  | inr pointers ↦
      let parts = and_parts (is_pointer f) (is_pointer g) pointers in
      or_right (same_promoted f g || is_object_pointer f && is_integer g) (is_object_pointer f && alike_pointers f g)
      (and_from (is_object_pointer f) (alike_pointers f g) (of parts.0) (alike parts.0 parts.1))
]

not_apart : (both : Bool) → both ≡ true → not both ≡ true → ⊥
not_apart true e h = both_ways false refl h
not_apart false e h = both_ways false refl e

apart_alike : (structs : List Structure) (a b : Operand) → may_be_apart a.value b.value ≡ true → moved_fault structs a ≡ None → moved_fault structs b ≡ None →
    is_pointer (form_of a.value) ≡ true → is_pointer (form_of b.value) ≡ true → alike_pointers (form_of a.value) (form_of b.value) ≡ true
apart_alike structs a b h ma mb pa pb =
    let both = is_pointer (form_of a.value) && is_pointer (form_of b.value) in
    let alike = alike_pointers (form_of a.value) (form_of b.value) in
    elim (or_cases (not both || alike || is_null_constant a.value) (is_null_constant b.value) h) [
      | inr null ↦ absurd (null_not_moved structs b.value null pb (moved structs b mb pb))
      | inl front ↦ elim (or_cases (not both || alike) (is_null_constant a.value) front) [
        | inr null ↦ absurd (null_not_moved structs a.value null pa (moved structs a ma pa))
        | inl rest ↦ elim (or_cases (not both) alike rest) [
          | inl apart ↦ absurd (not_apart both (and_from (is_pointer (form_of a.value)) (is_pointer (form_of b.value)) pa pb) apart)
          | inr same ↦ same
        ]
      ]
    ]

sum_takes : (structs : List Structure) (o : BinOp) (at : Place) (a b : Operand) → is_sum o ≡ true → may_be_added o (form_of a.value) (form_of b.value) ≡ true →
    sum_fault structs at a b ≡ None → are_integers (form_of a.value) (form_of b.value) ≡ false → takes o (form_of a.value) (form_of b.value) ≡ true
sum_takes structs op.Add at a b s h n e =
    let parts = sum_parts structs at a b n in
    added_takes (form_of a.value) (form_of b.value) h e (moved_object structs a parts.left) (moved_object structs b parts.right)
sum_takes structs op.Sub at a b s h n e =
    let parts = sum_parts structs at a b n in
    subtracted_takes (form_of a.value) (form_of b.value) h e (moved_object structs a parts.left) (apart_alike structs a b parts.apart parts.left parts.right)
sum_takes structs op.Mul at a b s h n e = cc
sum_takes structs op.Div at a b s h n e = cc
sum_takes structs op.Rem at a b s h n e = cc
sum_takes structs op.ShiftLeft at a b s h n e = cc
sum_takes structs op.ShiftRight at a b s h n e = cc
sum_takes structs op.Less at a b s h n e = cc
sum_takes structs op.Greater at a b s h n e = cc
sum_takes structs op.LessEqual at a b s h n e = cc
sum_takes structs op.GreaterEqual at a b s h n e = cc
sum_takes structs op.Equal at a b s h n e = cc
sum_takes structs op.NotEqual at a b s h n e = cc
sum_takes structs op.BitAnd at a b s h n e = cc
sum_takes structs op.BitXor at a b s h n e = cc
sum_takes structs op.BitOr at a b s h n e = cc

-- by what the tests of the types and of the operands answered
pub tested_sum_takes : (structs : List Structure) (o : BinOp) (at : Place) (a b : Operand) (s t : CType) (may : Bool) (fault : Option Fault) →
    s ≡ type_of a.value → t ≡ type_of b.value → may ≡ may_be_added o (form_of_type s) (form_of_type t) → may ≡ true →
    fault ≡ sum_fault structs at a b → fault ≡ None → is_sum o ≡ true →
    are_integers (form_of a.value) (form_of b.value) ≡ false → takes o (form_of a.value) (form_of b.value) ≡ true
tested_sum_takes structs o at a b s t may fault of_a of_b tested yes_may found no_fault is e =
    let left : may_be_added o (form_of a.value) (form_of b.value) ≡ may_be_added o (form_of_type s) (form_of b.value) =
    ap (λ x. may_be_added o (form_of_type x) (form_of b.value)) (sym of_a) in
    let right : may_be_added o (form_of_type s) (form_of b.value) ≡ may_be_added o (form_of_type s) (form_of_type t) =
    ap (λ y. may_be_added o (form_of_type s) (form_of_type y)) (sym of_b) in
    sum_takes structs o at a b is (left ∙ right ∙ sym tested ∙ yes_may) (sym found ∙ no_fault) e
