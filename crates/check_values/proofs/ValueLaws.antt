-- Values of objects and functions, typed by themselves, and types without their qualifiers.
use Rattle.std.proofs.Common.{◌≡◌, ◌∙◌, ap, sym, refl, ℤ, Bool, true, false, ◌&&◌, ◌||◌, IsTrue, List}
use Rattle.model_types.specs.declared.marks.Mark.{Mark}
use Rattle.model_types.specs.declared.marks.Origin.TheVariants.{Implied}
use Rattle.model_types.specs.Types.{CType, typed, Form, Void, Integer, Enum, Pointer, Array, Struct, Function, form_of_type}
use Rattle.model_types.specs.Structures.{Structure}
use Rattle.model_types.specs.Layout.{is_complete}
use Rattle.model_core.specs.CoreTypes.{unqualified, is_void}
use Rattle.model_core.specs.SameTypes.{is_integer, is_zero, is_plain_void_pointer}
use Rattle.model_core.specs.TypedParts.{is_array, constant_fits, converts, implied_fits}
use Rattle.model_core.specs.TypedExpr.{is_typed}
use Rattle.model_core.specs.Core as unit
use Rattle.model_checking.specs.MadeCore.{constant}
use Rattle.typed_rule_laws.proofs.TypeForms as forms

not_array : (v : ℤ) (f : Form) → constant_fits v f ≡ true → is_array f ≡ false
not_array v Void h = refl
not_array v (Integer b) h = refl
not_array v (Enum b d) h = refl
not_array v (Pointer t) h = refl
not_array v (Array t n) h = cc
not_array v (Struct s) h = refl
not_array v (Function t ps w) h = refl

fits_unqualified : (v : ℤ) (t : CType) → constant_fits v (form_of_type t) ≡ true → constant_fits v (form_of_type (unqualified t)) ≡ true
fits_unqualified v t h = ap (constant_fits v) (forms.unqualified_form t (not_array v (form_of_type t) h)) ∙ h

pub constant_is_typed : (v : ℤ) (t : CType) (mark : Mark) → constant_fits v (form_of_type t) ≡ true → is_typed (unit.Constant v (unqualified t) mark) ≡ true
constant_is_typed v t mark h = fits_unqualified v t h

abbrev null_fits : ℤ → Form → Bool
null_fits v f =
    constant_fits v f && converts (is_zero v && (is_integer f || is_plain_void_pointer f)) f f
    && implied_fits (is_zero v && (is_integer f || is_plain_void_pointer f)) f f

null_fits_by : (v : ℤ) (f : Form) → is_plain_void_pointer f ≡ true → constant_fits v f ≡ true → null_fits v f ≡ true
null_fits_by v (Pointer (typed Void q)) h z = rw (z, h) refl
null_fits_by v f h z = cc

plain_not_array : (f : Form) → is_plain_void_pointer f ≡ true → is_array f ≡ false
plain_not_array Void h = refl
plain_not_array (Integer b) h = refl
plain_not_array (Enum b d) h = refl
plain_not_array (Pointer t) h = refl
plain_not_array (Array t n) h = cc
plain_not_array (Struct s) h = refl
plain_not_array (Function t ps w) h = refl

null_is_typed : (v : ℤ) (t : CType) (mark : Mark) → is_typed (constant v t mark) ≡ true → is_plain_void_pointer (form_of_type t) ≡ true →
    is_typed (unit.Convert Implied (unqualified t) (constant v t mark) mark) ≡ true
null_is_typed v t mark h p =
    let same = forms.unqualified_form t (plain_not_array (form_of_type t) p) in
    null_fits_by v (form_of_type (unqualified t)) (ap is_plain_void_pointer same ∙ p) h

pub null_pointer_is_typed : (v : ℤ) (t made : CType) (e : unit.Expr) (mark : Mark) → e ≡ constant v t mark → made ≡ unqualified t →
    IsTrue (is_typed e) → is_plain_void_pointer (form_of_type t) ≡ true → IsTrue (is_typed (unit.Convert Implied made e mark))
null_pointer_is_typed v t made e mark is same h p =
    let known : is_typed e ≡ true = cc in
    let k : is_typed (unit.Convert Implied made e mark) ≡ true =
    ap (λ x. is_typed (unit.Convert Implied made x mark)) is ∙ ap (λ x. is_typed (unit.Convert Implied x (constant v t mark) mark)) same ∙ null_is_typed v t mark (sym (ap is_typed is) ∙ known) p in
    cc

pub unqualified_void : (t : CType) → is_void (unqualified t) ≡ is_void t
unqualified_void (typed Void q) = refl
unqualified_void (typed (Integer b) q) = refl
unqualified_void (typed (Enum b d) q) = refl
unqualified_void (typed (Pointer t) q) = refl
unqualified_void (typed (Array t n) q) = refl
unqualified_void (typed (Struct s) q) = refl
unqualified_void (typed (Function t ps v) q) = refl

pub unqualified_complete : (structs : List Structure) (t : CType) → is_complete structs (unqualified t) ≡ is_complete structs t
unqualified_complete structs t = forms.unqualified_complete structs t
