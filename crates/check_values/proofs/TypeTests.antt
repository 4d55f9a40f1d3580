-- Tests of a type by its form and its qualifiers.
use Rattle.std.proofs.Common.{◌≡◌, refl, Bool, true, false, ◌&&◌}
use Rattle.model_types.specs.declared.numbers.Basic.{Basic}
use Rattle.model_types.specs.Types.{CType, typed, Form, Void, Integer, Enum, Pointer, Array, Struct, Function, form_of_type, quals_of_type}
use Rattle.model_types.specs.Compatible.{same_quals}
use Rattle.model_core.specs.CoreTypes.{no_quals, is_void}
use Rattle.model_core.specs.SameTypes.{is_plain_void_pointer, is_void_pointer}
use Rattle.model_core.specs.TypedParts.{converts}

abbrev is_void_form : Form → Bool
is_void_form Void = true
is_void_form (Integer b) = false
is_void_form (Enum b d) = false
is_void_form (Pointer t) = false
is_void_form (Array t n) = false
is_void_form (Struct s) = false
is_void_form (Function t ps v) = false

void_of_form : (t : CType) → is_void t ≡ is_void_form (form_of_type t)
void_of_form (typed Void q) = refl
void_of_form (typed (Integer b) q) = refl
void_of_form (typed (Enum b d) q) = refl
void_of_form (typed (Pointer t) q) = refl
void_of_form (typed (Array t n) q) = refl
void_of_form (typed (Struct s) q) = refl
void_of_form (typed (Function t ps v) q) = refl

pub void_by_form : (t : CType) (f : Form) → f ≡ form_of_type t → is_void t ≡ is_void_form f
void_by_form t f e = rw e (void_of_form t)

pub plain_void_by_parts : (t : CType) → is_plain_void_pointer (Pointer t) ≡ (is_void t && same_quals (quals_of_type t) no_quals)
plain_void_by_parts (typed Void q) = refl
plain_void_by_parts (typed (Integer b) q) = refl
plain_void_by_parts (typed (Enum b d) q) = refl
plain_void_by_parts (typed (Pointer t) q) = refl
plain_void_by_parts (typed (Array t n) q) = refl
plain_void_by_parts (typed (Struct s) q) = refl
plain_void_by_parts (typed (Function t ps v) q) = refl

pub void_pointer_by_target : (t : CType) → is_void_pointer (Pointer t) ≡ is_void t
void_pointer_by_target (typed Void q) = refl
void_pointer_by_target (typed (Integer b) q) = refl
void_pointer_by_target (typed (Enum b d) q) = refl
void_pointer_by_target (typed (Pointer t) q) = refl
void_pointer_by_target (typed (Array t n) q) = refl
void_pointer_by_target (typed (Struct s) q) = refl
void_pointer_by_target (typed (Function t ps v) q) = refl

pub integer_taken : (taken is_null : Bool) (f g : Form) (b : Basic) → g ≡ Integer b → ((n : Bool) → taken ≡ converts n f (Integer b)) →
    taken ≡ converts is_null f g
integer_taken taken is_null f g b e h = rw e (h is_null)
