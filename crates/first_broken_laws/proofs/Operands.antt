-- What an operand breaks where its value is used or read, or a pointer is moved.
use Rattle.std.proofs.Common.{◌≡◌, inl, inr, ap, sym, refl, Bool, true, false, ◌&&◌, ◌||◌, not, if◌then◌else◌, None, List, arith}
use Rattle.std.proofs.lemmas.Bool.{both_ways}
use Rattle.cake_base.specs.declared.places.Place.{Place}
use Rattle.model_types.specs.Types.{CType, typed, Form, Void, Integer, Enum, Pointer, Array, Struct, Function, form_of_type}
use Rattle.model_types.specs.Structures.{Structure}
use Rattle.model_types.specs.Layout.{is_complete}
use Rattle.model_scopes.specs.DeclarationRules.{constraint_at}
use Rattle.model_core.specs.CoreTypes.{type_of, object_type, unqualified, is_void, is_pointer}
use Rattle.model_core.specs.SameTypes.{is_integer}
use Rattle.model_core.specs.TypedParts.{is_scalar}
use Rattle.model_core.specs.TypedExpr.{form_of}
use Rattle.model_core.specs.Core as unit
use Rattle.model_checking.specs.Meanings.{Operand}
use Rattle.model_checking.specs.Faults.{wants}
use Rattle.model_checking.specs.MadeCore.{used_fault, unread_fault}
use Rattle.model_checking.specs.PointerRules.{points_to_object, moved_fault}
use Rattle.model_constraints.specs.Pairs.{Pairs, At, Beside, IsUnbroken}
use Rattle.model_constraints.specs.BrokenValues.{broken_use, broken_reading}
use Rattle.model_constraints.specs.BrokenPointers.{points_to_complete, broken_move}
use Rattle.first_broken_laws.specs.FirstNamed.{Names, Precedes}
use Rattle.first_broken_laws.proofs.PairLaws.{AllBehind, Before, StandBehind, all_here, all_stand, stand_at, stand_beside, at_unbroken, beside_unbroken, at_first, first_left, names_right, names_at}
use Rattle.typed_rule_laws.proofs.TypeForms.{unqualified_complete}

-- ---- C21 and C22

use_by : (first : Place) (v c : Bool) → Names (Beside (At first 21 v) (At first 22 (not v && not c))) (if v then wants false first 21 else wants c first 22)
use_by first true c =
    first_left (At first 21 true) (At first 22 false) (constraint_at first 21) (at_first first 21 true refl) (all_here first 21 22 false (omega arith))
use_by first false c =
    names_right (At first 21 false) (At first 22 (not c)) (wants c first 22) (at_unbroken first 21 false refl) (names_at first 22 (not c) c refl)

pub use_named : (structs : List Structure) (o : Operand) → Names (broken_use structs o) (used_fault structs o)
use_named structs o = use_by o.first (is_void (type_of o.value)) (is_complete structs (type_of o.value))

pub use_stands : (structs : List Structure) (at : Place) (o : Operand) → Precedes at o.first → StandBehind at (broken_use structs o)
use_stands structs at o lt =
    stand_beside at (At o.first 21 (is_void (type_of o.value))) (At o.first 22 (not (is_void (type_of o.value)) && not (is_complete structs (type_of o.value))))
    (stand_at at o.first 21 (is_void (type_of o.value)) (λ e. lt))
    (stand_at at o.first 22 (not (is_void (type_of o.value)) && not (is_complete structs (type_of o.value))) (λ e. lt))

scalar_unused : (structs : List Structure) (first : Place) (t : CType) → is_scalar (form_of_type t) ≡ true →
    IsUnbroken (Beside (At first 21 (is_void t)) (At first 22 (not (is_void t) && not (is_complete structs t))))
scalar_unused structs first (typed Void q) h = absurd (both_ways false refl h)
scalar_unused structs first (typed (Integer b) q) h = beside_unbroken (At first 21 false) (At first 22 false) (at_unbroken first 21 false refl) (at_unbroken first 22 false refl)
scalar_unused structs first (typed (Enum b d) q) h = beside_unbroken (At first 21 false) (At first 22 false) (at_unbroken first 21 false refl) (at_unbroken first 22 false refl)
scalar_unused structs first (typed (Pointer t) q) h = beside_unbroken (At first 21 false) (At first 22 false) (at_unbroken first 21 false refl) (at_unbroken first 22 false refl)
scalar_unused structs first (typed (Array t n) q) h = absurd (both_ways false refl h)
scalar_unused structs first (typed (Struct s) q) h = absurd (both_ways false refl h)
scalar_unused structs first (typed (Function t ps v) q) h = absurd (both_ways false refl h)

-- a scalar can be used
pub scalar_unbroken : (structs : List Structure) (o : Operand) → is_scalar (form_of o.value) ≡ true → IsUnbroken (broken_use structs o)
scalar_unbroken structs o h = scalar_unused structs o.first (type_of o.value) h

pub integer_unbroken : (structs : List Structure) (o : Operand) → is_integer (form_of o.value) ≡ true → IsUnbroken (broken_use structs o)
integer_unbroken structs o h = scalar_unbroken structs o (ap (λ x. x || is_pointer (form_of o.value)) h)

-- what comes behind it, where it isn't a scalar
before_use_by : (structs : List Structure) (o : Operand) (Q : Pairs) (b : Bool) → is_scalar (form_of o.value) ≡ b →
    (b ≡ false → StandBehind o.first Q) → Before (broken_use structs o) Q
before_use_by structs o Q true e k place rule h = absurd (scalar_unbroken structs o e place rule h)
before_use_by structs o Q false e k place rule h = elim h as (λ x. AllBehind (constraint_at place rule) Q) [
  | inl one ↦ all_stand (constraint_at place rule) Q (λ q m hq. rw (ap (λ (p : Place). p.order) one.1) (k refl q m hq))
  | inr one ↦ all_stand (constraint_at place rule) Q (λ q m hq. rw (ap (λ (p : Place). p.order) one.1) (k refl q m hq))
]

pub before_use : (structs : List Structure) (o : Operand) (Q : Pairs) → (is_scalar (form_of o.value) ≡ false → StandBehind o.first Q) → Before (broken_use structs o) Q
before_use structs o Q k = before_use_by structs o Q (is_scalar (form_of o.value)) refl k

-- ---- where a value may be void

is_read_by : (first : Place) (unread v c : Bool) → (unread ≡ true → c ≡ false) →
    Names (Beside (At first 21 (unread && v)) (At first 22 (unread && not v))) (if unread then (if v then wants false first 21 else wants c first 22) else None)
is_read_by first false v c k = beside_unbroken (At first 21 false) (At first 22 false) (at_unbroken first 21 false refl) (at_unbroken first 22 false refl)
is_read_by first true true c k =
    first_left (At first 21 true) (At first 22 false) (constraint_at first 21) (at_first first 21 true refl) (all_here first 21 22 false (omega arith))
is_read_by first true false c k =
    names_right (At first 21 false) (At first 22 true) (wants c first 22) (at_unbroken first 21 false refl) (names_at first 22 true c (sym (ap not (k refl))))

load_read : (first : Place) (v c d : Bool) → d ≡ c →
    Names (Beside (At first 21 (not c && v)) (At first 22 (not c && not v))) (if (if c then false else true) then (if v then wants false first 21 else wants d first 22) else None)
load_read first v true d e = is_read_by first false v d (λ f. absurd (both_ways false refl f))
load_read first v false d e = is_read_by first true v d (λ f. e)

reading_by : (structs : List Structure) (first : Place) (e : unit.Expr) →
    Names (broken_reading structs (record { value = e; first = first })) (unread_fault structs (record { value = e; first = first }))
reading_by structs first (unit.Load object mark) =
    load_read first (is_void (unqualified (object_type object))) (is_complete structs (object_type object)) (is_complete structs (unqualified (object_type object)))
    (unqualified_complete structs (object_type object))
reading_by structs first e = is_read_by first false (is_void (type_of e)) (is_complete structs (type_of e)) (λ f. absurd (both_ways false refl f))

pub reading_named : (structs : List Structure) (o : Operand) → Names (broken_reading structs o) (unread_fault structs o)
reading_named structs o = reading_by structs o.first o.value

pub reading_stands : (structs : List Structure) (at : Place) (o : Operand) → Precedes at o.first → StandBehind at (broken_reading structs o)
reading_stands structs at o lt place rule h = elim h [
  | inl one ↦ rw (ap (λ (p : Place). p.order) one.1) lt
  | inr one ↦ rw (ap (λ (p : Place). p.order) one.1) lt
]

-- its place is that of the operand
pub before_reading : (structs : List Structure) (o : Operand) (Q : Pairs) → StandBehind o.first Q → Before (broken_reading structs o) Q
before_reading structs o Q k place rule h = elim h as (λ x. AllBehind (constraint_at place rule) Q) [
  | inl one ↦ all_stand (constraint_at place rule) Q (λ q m hq. rw (ap (λ (p : Place). p.order) one.1) (k q m hq))
  | inr one ↦ all_stand (constraint_at place rule) Q (λ q m hq. rw (ap (λ (p : Place). p.order) one.1) (k q m hq))
]

-- ---- C12

pub points_same : (structs : List Structure) (f : Form) → points_to_complete structs f ≡ points_to_object structs f
points_same structs Void = refl
points_same structs (Integer b) = refl
points_same structs (Enum b d) = refl
points_same structs (Pointer t) = refl
points_same structs (Array t n) = refl
points_same structs (Struct s) = refl
points_same structs (Function t ps v) = refl

move_by : (first : Place) (m p w c : Bool) → m ≡ true → c ≡ w → Names (At first 12 (m && p && not c)) (if p then wants w first 12 else None)
move_by first false p w c e d = absurd (both_ways false refl e)
move_by first true true w c e d = names_at first 12 (not c) w (ap not d)
move_by first true false w c e d = at_unbroken first 12 false refl

pub move_named : (structs : List Structure) (m : Bool) (o : Operand) → m ≡ true → Names (broken_move structs m o) (moved_fault structs o)
move_named structs m o e =
    move_by o.first m (is_pointer (form_of o.value)) (points_to_object structs (form_of o.value)) (points_to_complete structs (form_of o.value)) e (points_same structs (form_of o.value))

unmoved_by : (m p c : Bool) → m ≡ false → m && p && c ≡ false
unmoved_by true p c e = absurd (both_ways true e refl)
unmoved_by false p c e = refl

unpointed_by : (m p c : Bool) → p ≡ false → m && p && c ≡ false
unpointed_by true true c e = absurd (both_ways true e refl)
unpointed_by true false c e = refl
unpointed_by false p c e = refl

pub unmoved : (structs : List Structure) (m : Bool) (o : Operand) → m ≡ false → IsUnbroken (broken_move structs m o)
unmoved structs m o e =
    at_unbroken o.first 12 (m && is_pointer (form_of o.value) && not (points_to_complete structs (form_of o.value)))
    (unmoved_by m (is_pointer (form_of o.value)) (not (points_to_complete structs (form_of o.value))) e)

pub no_pointer_unmoved : (structs : List Structure) (m : Bool) (o : Operand) → is_pointer (form_of o.value) ≡ false → IsUnbroken (broken_move structs m o)
no_pointer_unmoved structs m o e =
    at_unbroken o.first 12 (m && is_pointer (form_of o.value) && not (points_to_complete structs (form_of o.value)))
    (unpointed_by m (is_pointer (form_of o.value)) (not (points_to_complete structs (form_of o.value))) e)

pub move_stands : (structs : List Structure) (at : Place) (m : Bool) (o : Operand) → Precedes at o.first → StandBehind at (broken_move structs m o)
move_stands structs at m o lt = stand_at at o.first 12 (m && is_pointer (form_of o.value) && not (points_to_complete structs (form_of o.value))) (λ e. lt)
