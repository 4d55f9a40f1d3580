-- What a null pointer constant is: an integer, or a pointer to void.
use Rattle.std.proofs.Common.{◌≡◌, refl, Bool, true, false, ◌||◌}
use Rattle.std.proofs.lemmas.Bool.{or_left, or_right, both_ways}
use Rattle.model_types.specs.Types.{Form, Void, Integer, Enum, Pointer, Array, Struct, Function}
use Rattle.model_core.specs.CoreTypes.{is_pointer}
use Rattle.model_core.specs.SameTypes.{is_integer, is_null_constant, is_plain_void_pointer}
use Rattle.model_core.specs.TypedParts.{is_scalar}
use Rattle.model_core.specs.TypedExpr.{form_of}
use Rattle.model_core.specs.Core as unit
use Rattle.typed_rule_laws.proofs.NullConstants.{null_is_scalar, null_is_void_pointer}

null_by : (e : unit.Expr) (b : Bool) → is_pointer (form_of e) ≡ b → is_null_constant e ≡ true → is_integer (form_of e) || is_plain_void_pointer (form_of e) ≡ true
null_by e true p h = or_right (is_integer (form_of e)) (is_plain_void_pointer (form_of e)) (null_is_void_pointer e h p)
null_by e false p h = or_left (is_integer (form_of e)) (is_plain_void_pointer (form_of e)) (integer_by (is_integer (form_of e)) (is_pointer (form_of e)) p (null_is_scalar e h))
  where
    integer_by : (i p : Bool) → p ≡ false → i || p ≡ true → i ≡ true
    integer_by true p e h = refl
    integer_by false p e h = absurd (both_ways p e h)

pub null_form : (e : unit.Expr) → is_null_constant e ≡ true → is_integer (form_of e) || is_plain_void_pointer (form_of e) ≡ true
null_form e h = null_by e (is_pointer (form_of e)) refl h

-- a pointer, or a null pointer constant, is a scalar
pub scalar_of : (f : Form) (null : Bool) → (null ≡ true → is_integer f || is_plain_void_pointer f ≡ true) → is_pointer f || null ≡ true → is_scalar f ≡ true
scalar_of (Integer b) null k h = refl
scalar_of (Enum b d) null k h = refl
scalar_of (Pointer t) null k h = refl
scalar_of Void null k h = k h
scalar_of (Array t n) null k h = k h
scalar_of (Struct s) null k h = k h
scalar_of (Function t ps v) null k h = k h
