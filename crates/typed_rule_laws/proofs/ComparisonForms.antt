-- What the rules of comparisons make is typed.
use Rattle.std.proofs.Common.{◌≡◌, ◌∙◌, ap, sym, refl, Bool, true, false, ◌&&◌, ◌||◌, not, if◌then◌else◌, Ok, List, inl, inr}
use Rattle.std.proofs.lemmas.Bool.{and_parts, and_from, or_cases, or_right, both_ways}
use Rattle.model_types.specs.declared.numbers.BinOp.{BinOp}
use Rattle.model_types.specs.declared.numbers.BinOp.TheVariants as op
use Rattle.model_types.specs.declared.marks.Mark.{Mark}
use Rattle.model_types.specs.declared.marks.Origin.TheVariants.{Implied}
use Rattle.model_types.specs.Types.{CType, typed, Form, Void, Integer, Enum, Pointer, Array, Struct, Function, form_of_type}
use Rattle.model_types.specs.Structures.{Structure}
use Rattle.model_types.specs.Conversions.{is_shift, is_comparison}
use Rattle.model_core.specs.CoreTypes.{type_of, unqualified, is_pointer}
use Rattle.model_core.specs.SameTypes.{is_integer, is_null_constant, is_void_pointer, same_form, same_value_type}
use Rattle.model_core.specs.TypedParts.{is_array, is_object_pointer, alike_pointers, comparable, ordered_pointers, takes, same_promoted, is_promoted, converts, implied_fits}
use Rattle.model_core.specs.TypedExpr.{form_of}
use Rattle.model_core.specs.PossibleTypes.{is_possible}
use Rattle.model_core.specs.SourceMarks.{expr_mark}
use Rattle.model_core.specs.Core as unit
use Rattle.model_checking.specs.Meanings.{a_value, Operand}
use Rattle.model_checking.specs.MadeCore.{are_integers, in_common_type, converted}
use Rattle.model_checking.specs.PointerRules.{beside_pointer, beside_void, is_pointer_or_null, may_be_compared, comparison_of_pointers, comparison}
use Rattle.typed_rule_laws.specs.TypedMeanings.{is_typed_value, is_typed_operand, GivesTyped}
use Rattle.typed_rule_laws.proofs.TypeForms.{unqualified_form}
use Rattle.typed_rule_laws.proofs.SameForms.{same_form_is}
use Rattle.typed_rule_laws.proofs.Values.{value_parts}
use Rattle.typed_rule_laws.proofs.Converted.{common_is_typed, converted_is_typed}
use Rattle.typed_rule_laws.proofs.NullConstants.{null_is_scalar}
use Rattle.typed_rule_laws.proofs.Outcomes.{where_wanted, scalar_operand, integer_operand, pointer_scalar}
use Rattle.typed_rule_laws.proofs.UnaryForms.{IsTyped}
use Rattle.typed_rule_laws.proofs.PointerForms.{binary_from}

-- ---- a null pointer constant beside a pointer

from_null : (null : Bool) (f g : Form) → null ≡ true → is_pointer g ≡ true → converts null f g ≡ true
from_null null f Void n p = refl
from_null null f (Pointer t) n p = rw n refl
from_null null f (Integer b) n p = cc
from_null null f (Enum b d) n p = cc
from_null null f (Array t k) n p = cc
from_null null f (Struct s) n p = cc
from_null null f (Function t ps v) n p = cc

implied_null : (null : Bool) (f g : Form) → null ≡ true → is_pointer g ≡ true → implied_fits null f g ≡ true
implied_null null f Void n p = cc
implied_null null f (Pointer t) n p = rw n refl
implied_null null f (Integer b) n p = refl
implied_null null f (Enum b d) n p = refl
implied_null null f (Array t k) n p = refl
implied_null null f (Struct s) n p = refl
implied_null null f (Function t ps v) n p = refl

pub from_null_is_typed : (structs : List Structure) (type : CType) (e : unit.Expr) → is_typed_value structs e ≡ true → is_null_constant e ≡ true →
    is_possible structs type ≡ true → is_pointer (form_of_type type) ≡ true → is_typed_value structs (converted type e) ≡ true
from_null_is_typed structs type e h n possible p =
    converted_is_typed structs type e h possible
    (from_null (is_null_constant e) (form_of e) (form_of_type type) n p) (implied_null (is_null_constant e) (form_of e) (form_of_type type) n p)

beside_by : (structs : List Structure) (other e : unit.Expr) (b : Bool) → is_pointer (form_of other) && is_null_constant e ≡ b →
    is_typed_value structs other ≡ true → is_typed_value structs e ≡ true → is_typed_value structs (if b then converted (type_of other) e else e) ≡ true
beside_by structs other e true is ho he =
    let parts = and_parts (is_pointer (form_of other)) (is_null_constant e) is in
    from_null_is_typed structs (type_of other) e he parts.1 (value_parts structs other ho).possible parts.0
beside_by structs other e false is ho he = he

pub beside_pointer_is_typed : (structs : List Structure) (other e : unit.Expr) → is_typed_value structs other ≡ true → is_typed_value structs e ≡ true →
    is_typed_value structs (beside_pointer other e) ≡ true
beside_pointer_is_typed structs other e ho he = beside_by structs other e (is_pointer (form_of other) && is_null_constant e) refl ho he

-- ---- a pointer to void

void_is_pointer : (g : Form) → is_void_pointer g ≡ true → is_pointer g ≡ true
void_is_pointer Void v = cc
void_is_pointer (Integer b) v = cc
void_is_pointer (Enum b d) v = cc
void_is_pointer (Pointer t) v = refl
void_is_pointer (Array t k) v = cc
void_is_pointer (Struct s) v = cc
void_is_pointer (Function t ps w) v = cc

void_same : (g f : Form) → is_void_pointer g ≡ true → same_form g f ≡ true → is_void_pointer f ≡ true
void_same g f v h = ap is_void_pointer (sym (same_form_is g f h)) ∙ v

no_promoted : (f g : Form) → is_pointer g ≡ true → same_promoted f g ≡ true → ⊥
no_promoted (Integer b) (Pointer t) p h = both_ways false refl (and_parts (is_promoted (Integer b)) false h).1
no_promoted f g p h = cc

-- a pointer that is alike one to void is one to void
pub alike_void : (g f : Form) → is_void_pointer g ≡ true → alike_pointers f g ≡ true → is_object_pointer f ≡ true
alike_void (Pointer (typed Void q)) (Pointer (typed Void r)) v h = refl
alike_void (Pointer (typed Void q)) f v h = cc
alike_void g f v h = cc

pub void_alike : (f g : Form) → is_void_pointer f ≡ true → alike_pointers f g ≡ true → is_object_pointer g ≡ true
void_alike (Pointer (typed Void r)) (Pointer (typed Void q)) v h = refl
void_alike f g v h = cc

promoted_no_pointer : (f g : Form) → is_pointer f ≡ true → same_promoted f g ≡ true → ⊥
promoted_no_pointer (Pointer t) g p h = cc
promoted_no_pointer f g p h = cc

pub void_object : (g : Form) → is_void_pointer g ≡ true → is_object_pointer g ≡ true
void_object (Pointer (typed Void q)) v = refl
void_object g v = cc

void_ordered : (g : Form) → is_void_pointer g ≡ true → ordered_pointers g g ≡ true
void_ordered (Pointer (typed Void q)) v = refl
void_ordered g v = cc

void_comparable : (g : Form) → is_void_pointer g ≡ true → comparable g g ≡ true
void_comparable (Pointer (typed Void q)) v = refl
void_comparable g v = cc

void_takes : (o : BinOp) (g : Form) → is_comparison o ≡ true → is_void_pointer g ≡ true → takes o g g ≡ true
void_takes op.Mul g c v = cc
void_takes op.Div g c v = cc
void_takes op.Rem g c v = cc
void_takes op.Add g c v = cc
void_takes op.Sub g c v = cc
void_takes op.ShiftLeft g c v = cc
void_takes op.ShiftRight g c v = cc
void_takes op.Less g c v = or_right (same_promoted g g) (ordered_pointers g g) (void_ordered g v)
void_takes op.Greater g c v = or_right (same_promoted g g) (ordered_pointers g g) (void_ordered g v)
void_takes op.LessEqual g c v = or_right (same_promoted g g) (ordered_pointers g g) (void_ordered g v)
void_takes op.GreaterEqual g c v = or_right (same_promoted g g) (ordered_pointers g g) (void_ordered g v)
void_takes op.Equal g c v = or_right (same_promoted g g) (comparable g g) (void_comparable g v)
void_takes op.NotEqual g c v = or_right (same_promoted g g) (comparable g g) (void_comparable g v)
void_takes op.BitAnd g c v = cc
void_takes op.BitXor g c v = cc
void_takes op.BitOr g c v = cc

left_ordered : (f g : Form) → is_void_pointer g ≡ true → same_promoted f g || ordered_pointers f g ≡ true → is_object_pointer f ≡ true
left_ordered f g v h = elim (or_cases (same_promoted f g) (ordered_pointers f g) h) [
  | inl same ↦ absurd (no_promoted f g (void_is_pointer g v) same)
  | inr ordered ↦ (and_parts (is_object_pointer f) (alike_pointers f g) ordered).0
]

right_ordered : (f g : Form) → is_void_pointer f ≡ true → same_promoted f g || ordered_pointers f g ≡ true → is_object_pointer g ≡ true
right_ordered f g v h = elim (or_cases (same_promoted f g) (ordered_pointers f g) h) [
  | inl same ↦ absurd (promoted_no_pointer f g (void_is_pointer f v) same)
  | inr ordered ↦ void_alike f g v (and_parts (is_object_pointer f) (alike_pointers f g) ordered).1
]

pub objects_of : (f g : Form) (c : Bool) → is_object_pointer f && is_object_pointer g && c ≡ true → (is_object_pointer f ≡ true) × (is_object_pointer g ≡ true)
objects_of f g c h = and_parts (is_object_pointer f) (is_object_pointer g) (and_parts (is_object_pointer f && is_object_pointer g) c h).0

left_compared : (f g : Form) → is_void_pointer g ≡ true → same_promoted f g || comparable f g ≡ true → is_object_pointer f ≡ true
left_compared f g v h = elim (or_cases (same_promoted f g) (comparable f g) h) [
  | inl same ↦ absurd (no_promoted f g (void_is_pointer g v) same)
  | inr both ↦ elim (or_cases (alike_pointers f g) (is_object_pointer f && is_object_pointer g && (is_void_pointer f || is_void_pointer g)) both) [
    | inl alike ↦ alike_void g f v alike
    | inr objects ↦ (objects_of f g (is_void_pointer f || is_void_pointer g) objects).0
  ]
]

right_compared : (f g : Form) → is_void_pointer f ≡ true → same_promoted f g || comparable f g ≡ true → is_object_pointer g ≡ true
right_compared f g v h = elim (or_cases (same_promoted f g) (comparable f g) h) [
  | inl same ↦ absurd (promoted_no_pointer f g (void_is_pointer f v) same)
  | inr both ↦ elim (or_cases (alike_pointers f g) (is_object_pointer f && is_object_pointer g && (is_void_pointer f || is_void_pointer g)) both) [
    | inl alike ↦ void_alike f g v alike
    | inr objects ↦ (objects_of f g (is_void_pointer f || is_void_pointer g) objects).1
  ]
]

left_object : (o : BinOp) (f g : Form) → is_comparison o ≡ true → is_void_pointer g ≡ true → takes o f g ≡ true → is_object_pointer f ≡ true
left_object op.Mul f g c v h = cc
left_object op.Div f g c v h = cc
left_object op.Rem f g c v h = cc
left_object op.Add f g c v h = cc
left_object op.Sub f g c v h = cc
left_object op.ShiftLeft f g c v h = cc
left_object op.ShiftRight f g c v h = cc
left_object op.Less f g c v h = left_ordered f g v h
left_object op.Greater f g c v h = left_ordered f g v h
left_object op.LessEqual f g c v h = left_ordered f g v h
left_object op.GreaterEqual f g c v h = left_ordered f g v h
left_object op.Equal f g c v h = left_compared f g v h
left_object op.NotEqual f g c v h = left_compared f g v h
left_object op.BitAnd f g c v h = cc
left_object op.BitXor f g c v h = cc
left_object op.BitOr f g c v h = cc

right_object : (o : BinOp) (f g : Form) → is_comparison o ≡ true → is_void_pointer f ≡ true → takes o f g ≡ true → is_object_pointer g ≡ true
right_object op.Mul f g c v h = cc
right_object op.Div f g c v h = cc
right_object op.Rem f g c v h = cc
right_object op.Add f g c v h = cc
right_object op.Sub f g c v h = cc
right_object op.ShiftLeft f g c v h = cc
right_object op.ShiftRight f g c v h = cc
right_object op.Less f g c v h = right_ordered f g v h
right_object op.Greater f g c v h = right_ordered f g v h
right_object op.LessEqual f g c v h = right_ordered f g v h
right_object op.GreaterEqual f g c v h = right_ordered f g v h
right_object op.Equal f g c v h = right_compared f g v h
right_object op.NotEqual f g c v h = right_compared f g v h
right_object op.BitAnd f g c v h = cc
right_object op.BitXor f g c v h = cc
right_object op.BitOr f g c v h = cc

pub to_void : (null : Bool) (f g : Form) → is_void_pointer g ≡ true → is_object_pointer f ≡ true → converts null f g ≡ true
to_void true f (Pointer (typed Void q)) v h = refl
to_void false f (Pointer (typed Void q)) v h = rw h refl
to_void null f g v h = cc

comparable_to_void : (f g : Form) → is_void_pointer g ≡ true → is_object_pointer f ≡ true → comparable f g ≡ true
comparable_to_void f g v h =
    or_right (alike_pointers f g) (is_object_pointer f && is_object_pointer g && (is_void_pointer f || is_void_pointer g))
    (and_from (is_object_pointer f && is_object_pointer g) (is_void_pointer f || is_void_pointer g)
    (and_from (is_object_pointer f) (is_object_pointer g) h (void_object g v)) (or_right (is_void_pointer f) (is_void_pointer g) v))

pub implied_void : (null : Bool) (f g : Form) → is_void_pointer g ≡ true → is_object_pointer f ≡ true → implied_fits null f g ≡ true
implied_void true f (Pointer (typed Void q)) v h = refl
implied_void false f (Pointer (typed Void q)) v h = comparable_to_void f (Pointer (typed Void q)) v h
implied_void null f g v h = cc

void_not_array : (f : Form) → is_void_pointer f ≡ true → is_array f ≡ false
void_not_array (Array t n) v = cc
void_not_array (Pointer t) v = refl
void_not_array Void v = refl
void_not_array (Integer b) v = refl
void_not_array (Enum b d) v = refl
void_not_array (Struct s) v = refl
void_not_array (Function t ps w) v = refl

-- what isn't a pointer to void becomes one, of this form
void_form_by : (type : CType) (e : unit.Expr) (mark : Mark) (same : Bool) → same_value_type type (type_of e) ≡ same → is_void_pointer (form_of_type type) ≡ true →
    is_void_pointer (form_of e) ≡ false → form_of (if same then e else unit.Convert Implied (unqualified type) e mark) ≡ form_of_type type
void_form_by type e mark true is v n = absurd (both_ways (is_void_pointer (form_of e)) n (void_same (form_of_type type) (form_of e) v is))
void_form_by type e mark false is v n = unqualified_form type (void_not_array (form_of_type type) v)

void_form : (type : CType) (e : unit.Expr) → is_void_pointer (form_of_type type) ≡ true → is_void_pointer (form_of e) ≡ false → form_of (converted type e) ≡ form_of_type type
void_form type e v n = void_form_by type e (expr_mark e) (same_value_type type (type_of e)) refl v n

to_void_is_typed : (structs : List Structure) (other e : unit.Expr) → is_typed_value structs other ≡ true → is_typed_value structs e ≡ true →
    is_void_pointer (form_of other) ≡ true → is_object_pointer (form_of e) ≡ true → is_typed_value structs (converted (type_of other) e) ≡ true
to_void_is_typed structs other e ho he v p =
    converted_is_typed structs (type_of other) e he (value_parts structs other ho).possible
    (to_void (is_null_constant e) (form_of e) (form_of other) v p) (implied_void (is_null_constant e) (form_of e) (form_of other) v p)

compared_by : (structs : List Structure) (o : BinOp) (mark : Mark) (a b : unit.Expr) (u v : Bool) → is_comparison o ≡ true →
    is_void_pointer (form_of a) ≡ u → is_void_pointer (form_of b) ≡ v → is_typed_value structs a ≡ true → is_typed_value structs b ≡ true →
    takes o (form_of a) (form_of b) ≡ true →
    is_typed_value structs (unit.Binary o (if v && not u then converted (type_of b) a else a) (if u && not v then converted (type_of a) b else b) mark) ≡ true
compared_by structs o mark a b true true c eu ev ha hb t = binary_from structs o a b mark ha hb t
compared_by structs o mark a b false false c eu ev ha hb t = binary_from structs o a b mark ha hb t
compared_by structs o mark a b false true c eu ev ha hb t =
    binary_from structs o (converted (type_of b) a) b mark
    (to_void_is_typed structs b a hb ha ev (left_object o (form_of a) (form_of b) c ev t)) hb
    (ap (λ f. takes o f (form_of b)) (void_form (type_of b) a ev eu) ∙ void_takes o (form_of b) c ev)
compared_by structs o mark a b true false c eu ev ha hb t =
    binary_from structs o a (converted (type_of a) b) mark ha
    (to_void_is_typed structs a b ha hb eu (right_object o (form_of a) (form_of b) c eu t))
    (ap (λ g. takes o (form_of a) g) (void_form (type_of a) b eu ev) ∙ void_takes o (form_of a) c eu)

pointers_compared : (structs : List Structure) (o : BinOp) (mark : Mark) (a b : unit.Expr) → is_comparison o ≡ true → is_typed_value structs a ≡ true →
    is_typed_value structs b ≡ true → GivesTyped structs (comparison_of_pointers o mark a b)
pointers_compared structs o mark a b c ha hb =
    where_wanted (IsTyped structs) (takes o (form_of a) (form_of b)) mark.at 19 (Ok (a_value (unit.Binary o (beside_void b a) (beside_void a b) mark)))
    (λ t. compared_by structs o mark a b (is_void_pointer (form_of a)) (is_void_pointer (form_of b)) c refl refl ha hb t)

-- ---- comparisons

pub pointer_or_null : (structs : List Structure) (e : unit.Expr) → is_typed_operand structs e ≡ true → is_pointer_or_null e ≡ true → is_typed_value structs e ≡ true
pointer_or_null structs e h p = elim (or_cases (is_pointer (form_of e)) (is_null_constant e) p) [
  | inl pointer ↦ scalar_operand structs e h (pointer_scalar (form_of e) pointer)
  | inr null ↦ scalar_operand structs e h (null_is_scalar e null)
]

not_comparison_shift : (o : BinOp) → is_comparison o ≡ true → is_shift o ≡ false
not_comparison_shift op.Mul c = refl
not_comparison_shift op.Div c = refl
not_comparison_shift op.Rem c = refl
not_comparison_shift op.Add c = refl
not_comparison_shift op.Sub c = refl
not_comparison_shift op.ShiftLeft c = cc
not_comparison_shift op.ShiftRight c = cc
not_comparison_shift op.Less c = refl
not_comparison_shift op.Greater c = refl
not_comparison_shift op.LessEqual c = refl
not_comparison_shift op.GreaterEqual c = refl
not_comparison_shift op.Equal c = refl
not_comparison_shift op.NotEqual c = refl
not_comparison_shift op.BitAnd c = refl
not_comparison_shift op.BitXor c = refl
not_comparison_shift op.BitOr c = refl

pub compared_typed : (structs : List Structure) (a b : unit.Expr) → is_typed_operand structs a ≡ true → is_typed_operand structs b ≡ true →
    may_be_compared a b ≡ true → (is_typed_value structs a ≡ true) × (is_typed_value structs b ≡ true)
compared_typed structs a b ha hb h = elim (or_cases (are_integers (form_of a) (form_of b)) (is_pointer_or_null a && is_pointer_or_null b) h) [
  | inl integers ↦
      let parts = and_parts (is_integer (form_of a)) (is_integer (form_of b)) integers in
      (integer_operand structs a ha parts.0, integer_operand structs b hb parts.1)
  | inr pointers ↦
      let parts = and_parts (is_pointer_or_null a) (is_pointer_or_null b) pointers in
      (pointer_or_null structs a ha parts.0, pointer_or_null structs b hb parts.1)
]

comparison_by : (structs : List Structure) (o : BinOp) (mark : Mark) (a b : unit.Expr) (integers : Bool) → is_comparison o ≡ true →
    are_integers (form_of a) (form_of b) ≡ integers → is_typed_value structs a ≡ true → is_typed_value structs b ≡ true →
    GivesTyped structs (if integers then Ok (a_value (in_common_type o mark a b)) else comparison_of_pointers o mark (beside_pointer b a) (beside_pointer a b))
comparison_by structs o mark a b true c e ha hb =
    let parts = and_parts (is_integer (form_of a)) (is_integer (form_of b)) e in
    common_is_typed structs o mark a b (not_comparison_shift o c) ha hb parts.0 parts.1
comparison_by structs o mark a b false c e ha hb =
    pointers_compared structs o mark (beside_pointer b a) (beside_pointer a b) c (beside_pointer_is_typed structs b a hb ha) (beside_pointer_is_typed structs a b ha hb)

pub comparison_is_typed : (structs : List Structure) (o : BinOp) (mark : Mark) (a b : Operand) → is_comparison o ≡ true → is_typed_operand structs a.value ≡ true →
    is_typed_operand structs b.value ≡ true → GivesTyped structs (comparison o mark a b)
comparison_is_typed structs o mark a b c ha hb =
    where_wanted (IsTyped structs) (may_be_compared a.value b.value) mark.at 9
    (if are_integers (form_of a.value) (form_of b.value) then Ok (a_value (in_common_type o mark a.value b.value))
    else comparison_of_pointers o mark (beside_pointer b.value a.value) (beside_pointer a.value b.value)) (λ w.
    let typed = compared_typed structs a.value b.value ha hb w in
    comparison_by structs o mark a.value b.value (are_integers (form_of a.value) (form_of b.value)) c refl typed.0 typed.1)
