-- Void by its form.
use Rattle.std.proofs.Common.{◌≡◌, refl, Bool, true, false}
use Rattle.model_types.specs.Types.{CType, typed, Form, Void, Integer, Enum, Pointer, Array, Struct, Function, form_of_type}
use Rattle.model_core.specs.CoreTypes.{is_void}

abbrev is_void_form : Form → Bool
is_void_form Void = true
is_void_form (Integer b) = false
is_void_form (Enum b d) = false
is_void_form (Pointer t) = false
is_void_form (Array t n) = false
is_void_form (Struct s) = false
is_void_form (Function t ps v) = false

void_of_form : (t : CType) → is_void t ≡ is_void_form (form_of_type t)
void_of_form (typed Void q) = refl
void_of_form (typed (Integer b) q) = refl
void_of_form (typed (Enum b d) q) = refl
void_of_form (typed (Pointer t) q) = refl
void_of_form (typed (Array t n) q) = refl
void_of_form (typed (Struct s) q) = refl
void_of_form (typed (Function t ps v) q) = refl

pub void_by_form : (t : CType) (f : Form) → f ≡ form_of_type t → is_void t ≡ is_void_form f
void_by_form t f e = rw e (void_of_form t)
