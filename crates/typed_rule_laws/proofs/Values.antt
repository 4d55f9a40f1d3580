-- Values of typed meanings can be operands, and an operand that isn't void is typed.
use Rattle.std.proofs.Common.{◌≡◌, ◌∙◌, ap, sym, refl, ℤ, Bool, true, false, ◌&&◌, ◌||◌, not, if◌then◌else◌, Some, None, List}
use Rattle.std.proofs.lemmas.Bool.{and_parts, and_from, not-true}
use Rattle.model_types.specs.declared.marks.Mark.{Mark}
use Rattle.model_types.specs.declared.marks.Origin.TheVariants.{Implied}
use Rattle.model_types.specs.Types.{CType, typed, Form, Void, Integer, Enum, Pointer, Array, Struct, Function, form_of_type}
use Rattle.model_types.specs.Structures.{Structure}
use Rattle.model_core.specs.CoreTypes.{type_of, object_type, unqualified, is_void}
use Rattle.model_core.specs.SameTypes.{is_integer, is_zero, is_plain_void_pointer}
use Rattle.model_core.specs.TypedParts.{is_array, is_function, is_function_pointer, constant_fits, converts, implied_fits, is_storable}
use Rattle.model_core.specs.TypedExpr.{form_of, object_form, is_typed, is_typed_lvalue}
use Rattle.model_core.specs.PossibleTypes.{is_possible, is_value_form}
use Rattle.model_core.specs.SourceMarks.{lvalue_mark}
use Rattle.model_core.specs.Core as unit
use Rattle.model_checking.specs.Meanings.{Meaning, a_place, a_value, a_function, a_target}
use Rattle.model_checking.specs.MadeCore.{constant, value_of}
use Rattle.typed_rule_laws.specs.TypedMeanings.{is_value_type, is_object_type, is_typed_value, is_typed_object, is_typed_meaning, is_typed_operand}
use Rattle.typed_rule_laws.proofs.TypeForms.{unqualified_form, unqualified_value, unqualified_possible, element_possible}

-- ---- what is typed, by its parts

pub record ValueParts (structs : List Structure) (e : unit.Expr) : Type 0 where
  pub typed_by : is_typed e ≡ true
  pub possible : is_possible structs (type_of e) ≡ true
  pub of_value : is_value_form (form_of e) ≡ true

pub record ObjectParts (structs : List Structure) (object : unit.Lvalue) : Type 0 where
  pub typed_by : is_typed_lvalue object ≡ true
  pub possible : is_possible structs (object_type object) ≡ true
  pub not_function : is_function (object_form object) ≡ false

pub value_parts : (structs : List Structure) (e : unit.Expr) → is_typed_value structs e ≡ true → ValueParts structs e
value_parts structs e h =
    let parts = and_parts (is_typed e) (is_value_type structs (type_of e)) h in
    let types = and_parts (is_possible structs (type_of e)) (is_value_form (form_of e)) parts.1 in
    record { typed_by = parts.0; possible = types.0; of_value = types.1 }

pub value_from : (structs : List Structure) (e : unit.Expr) → is_typed e ≡ true → is_value_type structs (type_of e) ≡ true → is_typed_value structs e ≡ true
value_from structs e t v = and_from (is_typed e) (is_value_type structs (type_of e)) t v

pub object_parts : (structs : List Structure) (object : unit.Lvalue) → is_typed_object structs object ≡ true → ObjectParts structs object
object_parts structs object h =
    let parts = and_parts (is_typed_lvalue object) (is_object_type structs (object_type object)) h in
    let types = and_parts (is_possible structs (object_type object)) (not (is_function (object_form object))) parts.1 in
    record { typed_by = parts.0; possible = types.0; not_function = not-true (is_function (object_form object)) types.1 }

pub object_from : (structs : List Structure) (object : unit.Lvalue) → is_typed_lvalue object ≡ true → is_possible structs (object_type object) ≡ true →
    is_function (object_form object) ≡ false → is_typed_object structs object ≡ true
object_from structs object t p f = rw (t, p, f) refl

pub value_type_from : (structs : List Structure) (t : CType) → is_possible structs t ≡ true → is_value_form (form_of_type t) ≡ true → is_value_type structs t ≡ true
value_type_from structs t p v = and_from (is_possible structs t) (is_value_form (form_of_type t)) p v

pub value_not_array : (f : Form) → is_value_form f ≡ true → is_array f ≡ false
value_not_array Void h = refl
value_not_array (Integer b) h = refl
value_not_array (Enum b d) h = refl
value_not_array (Pointer t) h = refl
value_not_array (Array t n) h = cc
value_not_array (Struct s) h = refl
value_not_array (Function t ps v) h = refl

pub value_not_function : (f : Form) → is_value_form f ≡ true → is_function f ≡ false
value_not_function Void h = refl
value_not_function (Integer b) h = refl
value_not_function (Enum b d) h = refl
value_not_function (Pointer t) h = refl
value_not_function (Array t n) h = refl
value_not_function (Struct s) h = refl
value_not_function (Function t ps v) h = cc

pub value_form_from : (f : Form) → is_array f ≡ false → is_function f ≡ false → is_value_form f ≡ true
value_form_from f a b = rw (a, b) refl

pub unqualified_value_type : (structs : List Structure) (t : CType) → is_possible structs t ≡ true → is_value_form (form_of_type t) ≡ true →
    is_value_type structs (unqualified t) ≡ true
unqualified_value_type structs t p v = value_type_from structs (unqualified t) (unqualified_possible structs t ∙ p) (unqualified_value t ∙ v)

-- ---- the value of a `constexpr` object

constant_of_value : (v : ℤ) (f : Form) → constant_fits v f ≡ true → is_value_form f ≡ true
constant_of_value v Void h = cc
constant_of_value v (Integer b) h = refl
constant_of_value v (Enum b d) h = refl
constant_of_value v (Pointer t) h = refl
constant_of_value v (Array t n) h = cc
constant_of_value v (Struct s) h = cc
constant_of_value v (Function t ps w) h = cc

-- a null pointer that isn't a constant is typed
abbrev null_fits : ℤ → Form → Bool
null_fits v f =
    constant_fits v f && converts (is_zero v && (is_integer f || is_plain_void_pointer f)) f f
    && implied_fits (is_zero v && (is_integer f || is_plain_void_pointer f)) f f

null_is_typed : (v : ℤ) (f : Form) → is_plain_void_pointer f ≡ true → constant_fits v f ≡ true → null_fits v f ≡ true
null_is_typed v (Pointer (typed Void q)) h z = rw (z, h) refl
null_is_typed v f h z = cc

known_operand : (structs : List Structure) (t : CType) (v : ℤ) (mark : Mark) (b : Bool) → is_plain_void_pointer (form_of_type t) ≡ b →
    is_possible structs t ≡ true → constant_fits v (form_of_type t) ≡ true →
    is_typed_operand structs (if b then unit.Convert Implied (unqualified t) (constant v t mark) mark else constant v t mark) ≡ true
known_operand structs t v mark true e p c =
    let value = constant_of_value v (form_of_type t) c in
    let same = unqualified_form t (value_not_array (form_of_type t) value) in
    value_from structs (unit.Convert Implied (unqualified t) (constant v t mark) mark)
    (null_is_typed v (form_of_type (unqualified t)) (ap is_plain_void_pointer same ∙ e) (ap (constant_fits v) same ∙ c))
    (unqualified_value_type structs t p value)
known_operand structs t v mark false e p c =
    let value = constant_of_value v (form_of_type t) c in
    value_from structs (constant v t mark) (ap (constant_fits v) (unqualified_form t (value_not_array (form_of_type t) value)) ∙ c)
    (unqualified_value_type structs t p value)

-- ---- a typed value can be an operand

storable_value : (f : Form) → is_storable f ≡ true → is_value_form f ≡ true
storable_value Void h = cc
storable_value (Integer b) h = refl
storable_value (Enum b d) h = refl
storable_value (Pointer t) h = refl
storable_value (Array t n) h = cc
storable_value (Struct s) h = refl
storable_value (Function t ps v) h = cc

pub operand_from : (structs : List Structure) (e : unit.Expr) → is_typed_value structs e ≡ true → is_typed_operand structs e ≡ true
operand_from structs (unit.Load object mark) h =
    let parts = value_parts structs (unit.Load object mark) h in
    let loaded = and_parts (is_typed_lvalue object) (is_storable (object_form object)) parts.typed_by in
    let value = storable_value (object_form object) loaded.1 in
    rw (loaded.0, sym (unqualified_possible structs (object_type object)) ∙ parts.possible, value_not_function (object_form object) value, value_not_array (object_form object) value) refl
operand_from structs (unit.Constant value type mark) h = h
operand_from structs (unit.Address origin object mark) h = h
operand_from structs (unit.FunctionRef id type by_name mark) h = h
operand_from structs (unit.Unary op operand mark) h = h
operand_from structs (unit.Binary op left right mark) h = h
operand_from structs (unit.Logic op left right mark) h = h
operand_from structs (unit.Choice condition first second mark) h = h
operand_from structs (unit.Convert origin type operand mark) h = h
operand_from structs (unit.Call function arguments mark) h = h
operand_from structs (unit.Assign assignment object value mark) h = h
operand_from structs (unit.Step op side type object mark) h = h
operand_from structs (unit.MemberValue structure rank type name mark) h = h
operand_from structs (unit.Comma first second mark) h = h

-- ---- the value of an object: its address, where it is an array, or what is loaded from it

unknown_operand : (structs : List Structure) (object : unit.Lvalue) (mark : Mark) (b : Bool) → is_array (object_form object) ≡ b →
    is_typed_object structs object ≡ true → is_typed_operand structs (if b then unit.Address Implied object mark else unit.Load object mark) ≡ true
unknown_operand structs object mark true e h =
    let parts = object_parts structs object h in
    value_from structs (unit.Address Implied object mark) (rw (parts.typed_by, e) refl)
    (rw (element_possible structs (object_type object) parts.possible) refl)
unknown_operand structs object mark false e h = rw (h, e) refl

pub value_is_operand : (structs : List Structure) (m : Meaning) → is_typed_meaning structs m ≡ true → is_typed_operand structs (value_of m) ≡ true
value_is_operand structs (a_place object None) h =
    unknown_operand structs object (lvalue_mark object) (is_array (object_form object)) refl (and_parts (is_typed_object structs object) true h).0
value_is_operand structs (a_place object (Some v)) h =
    let parts = and_parts (is_typed_object structs object) (constant_fits v (object_form object)) h in
    known_operand structs (object_type object) v (lvalue_mark object) (is_plain_void_pointer (object_form object)) refl
    (object_parts structs object parts.0).possible parts.1
value_is_operand structs (a_value value) h = operand_from structs value h
value_is_operand structs (a_function id type by_name mark) h =
    let parts = and_parts (is_possible structs type) (is_function (form_of_type type)) h in
    rw (parts.0, parts.1) refl
value_is_operand structs (a_target pointer) h = operand_from structs pointer (and_parts (is_typed_value structs pointer) (is_function_pointer (form_of pointer)) h).0

-- ---- an operand that isn't void

loaded_storable : (t : CType) → is_function (form_of_type t) ≡ false → is_array (form_of_type t) ≡ false → is_void (unqualified t) ≡ false →
    is_storable (form_of_type t) ≡ true
loaded_storable (typed Void q) f a v = cc
loaded_storable (typed (Integer b) q) f a v = refl
loaded_storable (typed (Enum b d) q) f a v = refl
loaded_storable (typed (Pointer t) q) f a v = refl
loaded_storable (typed (Array t n) q) f a v = cc
loaded_storable (typed (Struct s) q) f a v = refl
loaded_storable (typed (Function t ps w) q) f a v = cc

pub operand_is_value : (structs : List Structure) (e : unit.Expr) → is_typed_operand structs e ≡ true → is_void (type_of e) ≡ false → is_typed_value structs e ≡ true
operand_is_value structs (unit.Load object mark) h v =
    let parts = and_parts (is_typed_object structs object) (not (is_array (object_form object))) h in
    let known = object_parts structs object parts.0 in
    let not_array = not-true (is_array (object_form object)) parts.1 in
    value_from structs (unit.Load object mark) (rw (known.typed_by, loaded_storable (object_type object) known.not_function not_array v) refl)
    (unqualified_value_type structs (object_type object) known.possible (value_form_from (object_form object) not_array known.not_function))
operand_is_value structs (unit.Constant value type mark) h v = h
operand_is_value structs (unit.Address origin object mark) h v = h
operand_is_value structs (unit.FunctionRef id type by_name mark) h v = h
operand_is_value structs (unit.Unary op operand mark) h v = h
operand_is_value structs (unit.Binary op left right mark) h v = h
operand_is_value structs (unit.Logic op left right mark) h v = h
operand_is_value structs (unit.Choice condition first second mark) h v = h
operand_is_value structs (unit.Convert origin type operand mark) h v = h
operand_is_value structs (unit.Call function arguments mark) h v = h
operand_is_value structs (unit.Assign assignment object value mark) h v = h
operand_is_value structs (unit.Step op side type object mark) h v = h
operand_is_value structs (unit.MemberValue structure rank type name mark) h v = h
operand_is_value structs (unit.Comma first second mark) h v = h
