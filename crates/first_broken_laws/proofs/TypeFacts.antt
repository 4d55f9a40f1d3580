-- Compatible types, null pointer constants and pointers, as the rules of comparisons and conversions ask them.
use Rattle.std.proofs.Common.{◌≡◌, ◌∙◌, sym, refl, ℕ, Bool, true, false, ◌&&◌, if◌then◌else◌, Option, Some, None}
use Rattle.std.proofs.lemmas.Bool.{and_parts}
use Rattle.model_types.specs.Types.{CType, typed, Form, Void, Integer, Enum, Pointer, Array, Struct, Function, Types, no_types, more_types, form_of_type}
use Rattle.model_types.specs.Compatible.{same_quals, lengths_agree, compatible, compatible_passed, compatible_forms, compatible_lists}
use Rattle.model_core.specs.CoreTypes.{plain, type_of, unqualified, is_pointer}
use Rattle.model_core.specs.SameTypes.{is_null_constant, is_plain_void_pointer}
use Rattle.model_core.specs.TypedParts.{is_array, is_function}
use Rattle.model_core.specs.TypedExpr.{form_of}
use Rattle.model_core.specs.Core as unit
use Rattle.model_checking.specs.MadeCore.{converted}
use Rattle.model_checking.specs.PointerRules.{beside_pointer}
use Rattle.typed_rule_laws.proofs.TypeForms.{basic_self, bool_self, ownership_self, quals_self, number_self}
use Rattle.typed_rule_laws.proofs.SameForms.{same_form_is}
use Rattle.typed_rule_laws.proofs.Converted.{converted_has_type}

-- ---- a type is compatible with itself

lengths_self : (n : Option ℕ) → lengths_agree n n ≡ true
lengths_self None = refl
lengths_self (Some n) = number_self n

mutual
  pub compatible_self : (t : CType) → compatible t t ≡ true
  compatible_self (typed f q) = rw (quals_self q, forms_self f) refl

  passed_self : (t : CType) → compatible_passed t t ≡ true
  passed_self (typed f q) = rw (ownership_self q, forms_self f) refl

  forms_self : (f : Form) → compatible_forms f f ≡ true
  forms_self Void = refl
  forms_self (Integer b) = basic_self b
  forms_self (Enum b d) = rw (number_self d, basic_self b) refl
  forms_self (Pointer t) = compatible_self t
  forms_self (Array t n) = rw (compatible_self t, lengths_self n) refl
  forms_self (Struct s) = number_self s.0
  forms_self (Function t ps v) = rw (passed_self t, lists_self ps, bool_self v) refl

  lists_self : (ts : Types) → compatible_lists ts ts ≡ true
  lists_self no_types = refl
  lists_self (more_types t ts) = rw (passed_self t, lists_self ts) refl

-- ---- of compatible types both are functions, or neither is

compatible_function_form : (f g : Form) → compatible_forms f g ≡ true → is_function f ≡ is_function g
compatible_function_form Void Void h = refl
compatible_function_form (Integer x) (Integer y) h = refl
compatible_function_form (Integer x) (Enum y oy) h = refl
compatible_function_form (Enum x ox) (Integer y) h = refl
compatible_function_form (Enum x ox) (Enum y oy) h = refl
compatible_function_form (Pointer x) (Pointer y) h = refl
compatible_function_form (Array x nx) (Array y ny) h = refl
compatible_function_form (Struct x) (Struct y) h = refl
compatible_function_form (Function x psx wx) (Function y psy wy) h = refl
compatible_function_form f g h = cc

compatible_function : (t u : CType) → compatible t u ≡ true → is_function (form_of_type t) ≡ is_function (form_of_type u)
compatible_function (typed f p) (typed g q) h = compatible_function_form f g (and_parts (same_quals p q) (compatible_forms f g) h).1

unqualified_function : (t : CType) → is_function (form_of_type (unqualified t)) ≡ is_function (form_of_type t)
unqualified_function (typed Void p) = refl
unqualified_function (typed (Integer b) p) = refl
unqualified_function (typed (Enum b d) p) = refl
unqualified_function (typed (Pointer t) p) = refl
unqualified_function (typed (Array t n) p) = refl
unqualified_function (typed (Struct s) p) = refl
unqualified_function (typed (Function t ps v) p) = refl

pub alike_function : (t u : CType) → compatible (unqualified t) (unqualified u) ≡ true → is_function (form_of_type t) ≡ is_function (form_of_type u)
alike_function t u h = sym (unqualified_function t) ∙ compatible_function (unqualified t) (unqualified u) h ∙ unqualified_function u

-- ---- `void *`

pub void_bare : (t : CType) → is_plain_void_pointer (Pointer t) ≡ true → unqualified t ≡ plain Void
void_bare (typed Void q) h = refl
void_bare t h = cc

pub void_no_function : (t : CType) → is_plain_void_pointer (Pointer t) ≡ true → is_function (form_of_type t) ≡ false
void_no_function (typed Void q) h = refl
void_no_function t h = cc

-- ---- a null pointer constant beside a pointer has its type

pub pointer_no_array : (f : Form) → is_pointer f ≡ true → is_array f ≡ false
pointer_no_array (Pointer t) h = refl
pointer_no_array f h = cc

beside_by : (other e : unit.Expr) (b : Bool) → is_pointer (form_of other) && is_null_constant e ≡ b →
    form_of (if b then converted (type_of other) e else e) ≡ (if b then form_of other else form_of e)
beside_by other e true h =
    sym (same_form_is (form_of other) (form_of (converted (type_of other) e))
    (converted_has_type (type_of other) e (pointer_no_array (form_of other) (and_parts (is_pointer (form_of other)) (is_null_constant e) h).0)))
beside_by other e false h = refl

pub beside_form : (other e : unit.Expr) → form_of (beside_pointer other e) ≡ (if is_pointer (form_of other) && is_null_constant e then form_of other else form_of e)
beside_form other e = beside_by other e (is_pointer (form_of other) && is_null_constant e) refl
