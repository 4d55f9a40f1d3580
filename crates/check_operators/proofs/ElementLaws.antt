-- What designates an element is typed.
use Rattle.std.proofs.Common.{◌≡◌, ◌∙◌, ap, sym, refl, Bool, true, false, ◌&&◌, ◌||◌, None, List, IsTrue, inl, inr}
use Rattle.std.proofs.lemmas.Bool.{and_parts, or_cases, both_ways}
use Rattle.cake_base.specs.declared.places.Place.{Place}
use Rattle.model_types.specs.declared.marks.Mark.{Mark}
use Rattle.model_types.specs.Types.{CType, Form, form_of_type}
use Rattle.model_types.specs.Structures.{Structure}
use Rattle.model_core.specs.CoreTypes.{is_pointer, type_of}
use Rattle.model_core.specs.SameTypes.{is_integer}
use Rattle.model_core.specs.TypedExpr.{form_of, is_typed, is_typed_lvalue}
use Rattle.model_core.specs.Core as unit
use Rattle.model_checking.specs.Meanings.{Operand}
use Rattle.model_checking.specs.Faults.{or_fault}
use Rattle.model_checking.specs.PointerRules.{moved_fault, are_moved}
use Rattle.typed_rule_laws.proofs.NullConstants.{integer_not_pointer}
use Rattle.typed_rule_laws.proofs.Outcomes.{neither}
use Rattle.typed_rule_laws.proofs.UnaryForms.{moved_object}

index_counted : (f g : Form) → is_pointer g ≡ true → are_moved f g || are_moved g f ≡ true → is_integer f ≡ true
index_counted f g p h = elim (or_cases (are_moved f g) (are_moved g f) h) [
  | inl moves ↦ absurd (both_ways (is_pointer g) (integer_not_pointer g (and_parts (is_pointer f) (is_integer g) moves).1) p)
  | inr moves ↦ (and_parts (is_pointer g) (is_integer f) moves).1
]

array_first : (f g : Form) → is_pointer g ≡ false → are_moved f g || are_moved g f ≡ true → (is_pointer f ≡ true) × (is_integer g ≡ true)
array_first f g p h = elim (or_cases (are_moved f g) (are_moved g f) h) [
  | inl moves ↦ and_parts (is_pointer f) (is_integer g) moves
  | inr moves ↦ absurd (both_ways (is_pointer g) p (and_parts (is_pointer g) (is_integer f) moves).0)
]

element_by : (structs : List Structure) (mark : Mark) (a b : Operand) (is_second : Bool) → is_pointer (form_of b.value) ≡ is_second →
    are_moved (form_of a.value) (form_of b.value) || are_moved (form_of b.value) (form_of a.value) ≡ true →
    moved_fault structs a ≡ None → moved_fault structs b ≡ None → is_typed a.value ≡ true → is_typed b.value ≡ true →
    is_typed_lvalue (unit.Index is_second a.value b.value mark) ≡ true
element_by structs mark a b true e h ma mb ta tb = rw (ta, tb, index_counted (form_of a.value) (form_of b.value) e h, moved_object structs b mb e) refl
element_by structs mark a b false e h ma mb ta tb =
    let parts = array_first (form_of a.value) (form_of b.value) e h in
    rw (ta, tb, moved_object structs a ma parts.0, parts.1) refl

pub element_is_typed : (structs : List Structure) (mark : Mark) (a b : Operand) (type : CType) (is_second : Bool) → type ≡ type_of b.value →
    is_second ≡ is_pointer (form_of_type type) → are_moved (form_of a.value) (form_of b.value) || are_moved (form_of b.value) (form_of a.value) ≡ true →
    or_fault (moved_fault structs a) (moved_fault structs b) ≡ None → IsTrue (is_typed a.value) → IsTrue (is_typed b.value) →
    IsTrue (is_typed_lvalue (unit.Index is_second a.value b.value mark))
element_is_typed structs mark a b type is_second of_b second h n ta tb =
    let pointer : is_pointer (form_of b.value) ≡ is_second = ap (λ t. is_pointer (form_of_type t)) (sym of_b) ∙ sym second in
    let faults = neither (moved_fault structs a) (moved_fault structs b) n in
    let left : is_typed a.value ≡ true = cc in
    let right : is_typed b.value ≡ true = cc in
    let typed_element : is_typed_lvalue (unit.Index is_second a.value b.value mark) ≡ true =
    element_by structs mark a b is_second pointer h faults.first faults.second left right in
    cc
