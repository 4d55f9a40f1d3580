-- What comparisons of pointers take, and which pointers they convert.
use Rattle.std.proofs.Common.{◌≡◌, ◌∙◌, ap, sym, refl, Bool, true, false, ◌&&◌, ◌||◌, not, if◌then◌else◌, inl, inr}
use Rattle.std.proofs.lemmas.Bool.{and_parts, or_cases, or_right, both_ways}
use Rattle.model_types.specs.declared.numbers.BinOp.{BinOp}
use Rattle.model_types.specs.declared.numbers.BinOp.TheVariants as op
use Rattle.model_types.specs.declared.marks.Mark.{Mark}
use Rattle.model_types.specs.declared.marks.Origin.TheVariants.{Implied}
use Rattle.model_types.specs.Types.{CType, typed, Form, Void, Integer, Enum, Pointer, Array, Struct, Function, form_of_type}
use Rattle.model_types.specs.Conversions.{is_shift, is_comparison}
use Rattle.model_core.specs.CoreTypes.{type_of, unqualified, is_pointer}
use Rattle.model_core.specs.SameTypes.{is_null_constant, is_void_pointer, same_form, same_value_type}
use Rattle.model_core.specs.TypedParts.{is_array, is_promoted, same_promoted, is_object_pointer, alike_pointers, comparable, ordered_pointers, takes, converts, implied_fits}
use Rattle.model_core.specs.TypedExpr.{form_of}
use Rattle.model_core.specs.SourceMarks.{expr_mark}
use Rattle.model_core.specs.Core as unit
use Rattle.model_checking.specs.MadeCore.{converted}
use Rattle.model_checking.specs.PointerRules.{beside_void}
use Rattle.typed_rule_laws.proofs.TypeForms.{unqualified_form}
use Rattle.typed_rule_laws.proofs.SameForms.{same_form_is}
use Rattle.typed_rule_laws.proofs.ComparisonForms.{alike_void, void_alike, objects_of, to_void, implied_void}

pub comparison_is_no_shift : (o : BinOp) → is_comparison o ≡ true → is_shift o ≡ false
comparison_is_no_shift op.Mul c = refl
comparison_is_no_shift op.Div c = refl
comparison_is_no_shift op.Rem c = refl
comparison_is_no_shift op.Add c = refl
comparison_is_no_shift op.Sub c = refl
comparison_is_no_shift op.ShiftLeft c = cc
comparison_is_no_shift op.ShiftRight c = cc
comparison_is_no_shift op.Less c = refl
comparison_is_no_shift op.Greater c = refl
comparison_is_no_shift op.LessEqual c = refl
comparison_is_no_shift op.GreaterEqual c = refl
comparison_is_no_shift op.Equal c = refl
comparison_is_no_shift op.NotEqual c = refl
comparison_is_no_shift op.BitAnd c = refl
comparison_is_no_shift op.BitXor c = refl
comparison_is_no_shift op.BitOr c = refl

-- ---- a null pointer constant beside a pointer

from_null : (null : Bool) (f g : Form) → null ≡ true → is_pointer g ≡ true → converts null f g ≡ true
from_null null f Void n p = refl
from_null null f (Pointer t) n p = rw n refl
from_null null f (Integer b) n p = cc
from_null null f (Enum b d) n p = cc
from_null null f (Array t k) n p = cc
from_null null f (Struct s) n p = cc
from_null null f (Function t ps v) n p = cc

implied_null : (null : Bool) (f g : Form) → null ≡ true → is_pointer g ≡ true → implied_fits null f g ≡ true
implied_null null f Void n p = cc
implied_null null f (Pointer t) n p = rw n refl
implied_null null f (Integer b) n p = refl
implied_null null f (Enum b d) n p = refl
implied_null null f (Array t k) n p = refl
implied_null null f (Struct s) n p = refl
implied_null null f (Function t ps v) n p = refl

pub null_converts : (type : CType) (e : unit.Expr) → is_pointer (form_of_type type) ≡ true → is_null_constant e ≡ true →
    converts (is_null_constant e) (form_of e) (form_of_type type) ≡ true
null_converts type e p n = from_null (is_null_constant e) (form_of e) (form_of_type type) n p

pub null_fits : (type : CType) (e : unit.Expr) → is_pointer (form_of_type type) ≡ true → is_null_constant e ≡ true →
    implied_fits (is_null_constant e) (form_of e) (form_of_type type) ≡ true
null_fits type e p n = implied_null (is_null_constant e) (form_of e) (form_of_type type) n p

-- ---- a pointer beside one to void

pub void_converts : (type : CType) (e : unit.Expr) → is_void_pointer (form_of_type type) ≡ true → is_object_pointer (form_of e) ≡ true →
    converts (is_null_constant e) (form_of e) (form_of_type type) ≡ true
void_converts type e v p = to_void (is_null_constant e) (form_of e) (form_of_type type) v p

pub void_fits : (type : CType) (e : unit.Expr) → is_void_pointer (form_of_type type) ≡ true → is_object_pointer (form_of e) ≡ true →
    implied_fits (is_null_constant e) (form_of e) (form_of_type type) ≡ true
void_fits type e v p = implied_void (is_null_constant e) (form_of e) (form_of_type type) v p

void_is_pointer : (g : Form) → is_void_pointer g ≡ true → is_pointer g ≡ true
void_is_pointer Void v = cc
void_is_pointer (Integer b) v = cc
void_is_pointer (Enum b d) v = cc
void_is_pointer (Pointer t) v = refl
void_is_pointer (Array t k) v = cc
void_is_pointer (Struct s) v = cc
void_is_pointer (Function t ps w) v = cc

void_same : (g f : Form) → is_void_pointer g ≡ true → same_form g f ≡ true → is_void_pointer f ≡ true
void_same g f v h = ap is_void_pointer (sym (same_form_is g f h)) ∙ v

no_promoted : (f g : Form) → is_pointer g ≡ true → same_promoted f g ≡ true → ⊥
no_promoted (Integer b) (Pointer t) p h = both_ways false refl (and_parts (is_promoted (Integer b)) false h).1
no_promoted f g p h = cc

promoted_no_pointer : (f g : Form) → is_pointer f ≡ true → same_promoted f g ≡ true → ⊥
promoted_no_pointer (Pointer t) g p h = cc
promoted_no_pointer f g p h = cc

void_ordered : (g : Form) → is_void_pointer g ≡ true → ordered_pointers g g ≡ true
void_ordered (Pointer (typed Void q)) v = refl
void_ordered g v = cc

void_comparable : (g : Form) → is_void_pointer g ≡ true → comparable g g ≡ true
void_comparable (Pointer (typed Void q)) v = refl
void_comparable g v = cc

void_takes : (o : BinOp) (g : Form) → is_comparison o ≡ true → is_void_pointer g ≡ true → takes o g g ≡ true
void_takes op.Mul g c v = cc
void_takes op.Div g c v = cc
void_takes op.Rem g c v = cc
void_takes op.Add g c v = cc
void_takes op.Sub g c v = cc
void_takes op.ShiftLeft g c v = cc
void_takes op.ShiftRight g c v = cc
void_takes op.Less g c v = or_right (same_promoted g g) (ordered_pointers g g) (void_ordered g v)
void_takes op.Greater g c v = or_right (same_promoted g g) (ordered_pointers g g) (void_ordered g v)
void_takes op.LessEqual g c v = or_right (same_promoted g g) (ordered_pointers g g) (void_ordered g v)
void_takes op.GreaterEqual g c v = or_right (same_promoted g g) (ordered_pointers g g) (void_ordered g v)
void_takes op.Equal g c v = or_right (same_promoted g g) (comparable g g) (void_comparable g v)
void_takes op.NotEqual g c v = or_right (same_promoted g g) (comparable g g) (void_comparable g v)
void_takes op.BitAnd g c v = cc
void_takes op.BitXor g c v = cc
void_takes op.BitOr g c v = cc

left_ordered : (f g : Form) → is_void_pointer g ≡ true → same_promoted f g || ordered_pointers f g ≡ true → is_object_pointer f ≡ true
left_ordered f g v h = elim (or_cases (same_promoted f g) (ordered_pointers f g) h) [
  | inl same ↦ absurd (no_promoted f g (void_is_pointer g v) same)
  | inr ordered ↦ (and_parts (is_object_pointer f) (alike_pointers f g) ordered).0
]

right_ordered : (f g : Form) → is_void_pointer f ≡ true → same_promoted f g || ordered_pointers f g ≡ true → is_object_pointer g ≡ true
right_ordered f g v h = elim (or_cases (same_promoted f g) (ordered_pointers f g) h) [
  | inl same ↦ absurd (promoted_no_pointer f g (void_is_pointer f v) same)
  | inr ordered ↦ void_alike f g v (and_parts (is_object_pointer f) (alike_pointers f g) ordered).1
]

left_compared : (f g : Form) → is_void_pointer g ≡ true → same_promoted f g || comparable f g ≡ true → is_object_pointer f ≡ true
left_compared f g v h = elim (or_cases (same_promoted f g) (comparable f g) h) [
  | inl same ↦ absurd (no_promoted f g (void_is_pointer g v) same)
  | inr both ↦ elim (or_cases (alike_pointers f g) (is_object_pointer f && is_object_pointer g && (is_void_pointer f || is_void_pointer g)) both) [
    | inl alike ↦ alike_void g f v alike
    | inr objects ↦ (objects_of f g (is_void_pointer f || is_void_pointer g) objects).0
  ]
]

right_compared : (f g : Form) → is_void_pointer f ≡ true → same_promoted f g || comparable f g ≡ true → is_object_pointer g ≡ true
right_compared f g v h = elim (or_cases (same_promoted f g) (comparable f g) h) [
  | inl same ↦ absurd (promoted_no_pointer f g (void_is_pointer f v) same)
  | inr both ↦ elim (or_cases (alike_pointers f g) (is_object_pointer f && is_object_pointer g && (is_void_pointer f || is_void_pointer g)) both) [
    | inl alike ↦ void_alike f g v alike
    | inr objects ↦ (objects_of f g (is_void_pointer f || is_void_pointer g) objects).1
  ]
]

pub left_object : (o : BinOp) (f g : Form) → is_comparison o ≡ true → is_void_pointer g ≡ true → takes o f g ≡ true → is_object_pointer f ≡ true
left_object op.Mul f g c v h = cc
left_object op.Div f g c v h = cc
left_object op.Rem f g c v h = cc
left_object op.Add f g c v h = cc
left_object op.Sub f g c v h = cc
left_object op.ShiftLeft f g c v h = cc
left_object op.ShiftRight f g c v h = cc
left_object op.Less f g c v h = left_ordered f g v h
left_object op.Greater f g c v h = left_ordered f g v h
left_object op.LessEqual f g c v h = left_ordered f g v h
left_object op.GreaterEqual f g c v h = left_ordered f g v h
left_object op.Equal f g c v h = left_compared f g v h
left_object op.NotEqual f g c v h = left_compared f g v h
left_object op.BitAnd f g c v h = cc
left_object op.BitXor f g c v h = cc
left_object op.BitOr f g c v h = cc

pub right_object : (o : BinOp) (f g : Form) → is_comparison o ≡ true → is_void_pointer f ≡ true → takes o f g ≡ true → is_object_pointer g ≡ true
right_object op.Mul f g c v h = cc
right_object op.Div f g c v h = cc
right_object op.Rem f g c v h = cc
right_object op.Add f g c v h = cc
right_object op.Sub f g c v h = cc
right_object op.ShiftLeft f g c v h = cc
right_object op.ShiftRight f g c v h = cc
right_object op.Less f g c v h = right_ordered f g v h
right_object op.Greater f g c v h = right_ordered f g v h
right_object op.LessEqual f g c v h = right_ordered f g v h
right_object op.GreaterEqual f g c v h = right_ordered f g v h
right_object op.Equal f g c v h = right_compared f g v h
right_object op.NotEqual f g c v h = right_compared f g v h
right_object op.BitAnd f g c v h = cc
right_object op.BitXor f g c v h = cc
right_object op.BitOr f g c v h = cc

void_not_array : (f : Form) → is_void_pointer f ≡ true → is_array f ≡ false
void_not_array (Array t n) v = cc
void_not_array (Pointer t) v = refl
void_not_array Void v = refl
void_not_array (Integer b) v = refl
void_not_array (Enum b d) v = refl
void_not_array (Struct s) v = refl
void_not_array (Function t ps w) v = refl

void_form_by : (type : CType) (e : unit.Expr) (mark : Mark) (same : Bool) → same_value_type type (type_of e) ≡ same → is_void_pointer (form_of_type type) ≡ true →
    is_void_pointer (form_of e) ≡ false → form_of (if same then e else unit.Convert Implied (unqualified type) e mark) ≡ form_of_type type
void_form_by type e mark true is v n = absurd (both_ways (is_void_pointer (form_of e)) n (void_same (form_of_type type) (form_of e) v is))
void_form_by type e mark false is v n = unqualified_form type (void_not_array (form_of_type type) v)

void_form : (type : CType) (e : unit.Expr) → is_void_pointer (form_of_type type) ≡ true → is_void_pointer (form_of e) ≡ false → form_of (converted type e) ≡ form_of_type type
void_form type e v n = void_form_by type e (expr_mark e) (same_value_type type (type_of e)) refl v n

taken_by : (o : BinOp) (a b : unit.Expr) (u v : Bool) → is_comparison o ≡ true → is_void_pointer (form_of a) ≡ u → is_void_pointer (form_of b) ≡ v →
    takes o (form_of a) (form_of b) ≡ true →
    takes o (form_of (if v && not u then converted (type_of b) a else a)) (form_of (if u && not v then converted (type_of a) b else b)) ≡ true
taken_by o a b true true c eu ev t = t
taken_by o a b false false c eu ev t = t
taken_by o a b false true c eu ev t = ap (λ f. takes o f (form_of b)) (void_form (type_of b) a ev eu) ∙ void_takes o (form_of b) c ev
taken_by o a b true false c eu ev t = ap (λ g. takes o (form_of a) g) (void_form (type_of a) b eu ev) ∙ void_takes o (form_of a) c eu

-- the operator takes what the two pointers become
pub both_taken : (o : BinOp) (a b : unit.Expr) → is_comparison o ≡ true → takes o (form_of a) (form_of b) ≡ true →
    takes o (form_of (beside_void b a)) (form_of (beside_void a b)) ≡ true
both_taken o a b c t = taken_by o a b (is_void_pointer (form_of a)) (is_void_pointer (form_of b)) c refl refl t
