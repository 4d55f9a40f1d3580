-- Null pointer constants: integer constants, or pointers to void.
use Rattle.std.proofs.Common.{◌≡◌, ◌∙◌, ap, sym, refl, ℤ, Bool, true, false, ◌&&◌, ◌||◌, if◌then◌else◌, Option, None, List, inl, inr}
use Rattle.std.proofs.lemmas.Bool.{and_parts, or_cases, both_ways}
use Rattle.model_types.specs.declared.operators.UnaryOp.{UnaryOp}
use Rattle.model_types.specs.declared.operators.UnaryOp.TheVariants as op
use Rattle.model_types.specs.Types.{CType, typed, Form, Void, Integer, Enum, Pointer, Array, Struct, Function, form_of_type}
use Rattle.model_types.specs.Structures.{Structure}
use Rattle.model_core.specs.CoreTypes.{type_of, is_pointer, unary_type}
use Rattle.model_core.specs.SameTypes.{is_integer, is_zero, is_built_of_constants, is_zero_constant, integer_constant, constant_value, is_plain_void_pointer, is_null_constant}
use Rattle.model_core.specs.TypedParts.{is_object_pointer, is_scalar}
use Rattle.model_core.specs.TypedExpr.{form_of}
use Rattle.model_core.specs.TypedScope.{can_move}
use Rattle.model_core.specs.Core as unit
use Rattle.model_checking.specs.PointerRules.{points_to_object}
use Rattle.typed_rule_laws.proofs.Outcomes.{integer_scalar}
use Rattle.typed_rule_laws.proofs.Converted.{type_of_binary}

-- ---- what is built of constants is an integer

unary_integer : (o : UnaryOp) (t : CType) → is_integer (form_of_type t) ≡ true → is_integer (form_of_type (unary_type o t)) ≡ true
unary_integer op.Minus t h = h
unary_integer op.Complement t h = h
unary_integer op.Not t h = refl

pub built_is_integer : (e : unit.Expr) → is_built_of_constants e ≡ true → is_integer (form_of e) ≡ true
built_is_integer (unit.Constant value type mark) h = h
built_is_integer (unit.Load object mark) h = cc
built_is_integer (unit.Address origin object mark) h = cc
built_is_integer (unit.FunctionRef id type by_name mark) h = cc
built_is_integer (unit.Unary o e mark) h = unary_integer o (type_of e) (built_is_integer e h)
built_is_integer (unit.Binary o a b mark) h =
    let parts = and_parts (is_built_of_constants a) (is_built_of_constants b) h in
    type_of_binary (λ t. is_integer (form_of_type t) ≡ true) o (type_of a) (type_of b) refl refl (built_is_integer a parts.0) (built_is_integer b parts.1)
built_is_integer (unit.Logic o a b mark) h = refl
built_is_integer (unit.Choice c a b mark) h =
    built_is_integer a (and_parts (is_built_of_constants c) (is_built_of_constants a) (and_parts (is_built_of_constants c && is_built_of_constants a) (is_built_of_constants b) h).0).1
built_is_integer (unit.Convert origin type e mark) h = (and_parts (is_integer (form_of_type type)) (is_built_of_constants e) h).0
built_is_integer (unit.Call function arguments mark) h = cc
built_is_integer (unit.Assign assignment object value mark) h = cc
built_is_integer (unit.Step o side type object mark) h = cc
built_is_integer (unit.MemberValue structure rank type name mark) h = cc
built_is_integer (unit.Comma a b mark) h = cc

pub integer_not_pointer : (f : Form) → is_integer f ≡ true → is_pointer f ≡ false
integer_not_pointer Void h = cc
integer_not_pointer (Integer b) h = refl
integer_not_pointer (Enum b d) h = refl
integer_not_pointer (Pointer t) h = cc
integer_not_pointer (Array t n) h = cc
integer_not_pointer (Struct s) h = cc
integer_not_pointer (Function t ps v) h = cc

-- ---- a null pointer constant that is a pointer is one to void

zero_is_built : (b : Bool) (o : Option ℤ) → is_zero_constant (if b then o else None) ≡ true → b ≡ true
zero_is_built true o h = refl
zero_is_built false o h = cc

no_pointer : (e : unit.Expr) → is_zero_constant (integer_constant e) ≡ true → is_pointer (form_of e) ≡ true → ⊥
no_pointer e h p =
    both_ways (is_pointer (form_of e)) (integer_not_pointer (form_of e) (built_is_integer e (zero_is_built (is_built_of_constants e) (constant_value e) h))) p

plain_pointer : (f : Form) (v : Bool) → v && (is_integer f || is_plain_void_pointer f) ≡ true → is_pointer f ≡ true → is_plain_void_pointer f ≡ true
plain_pointer Void v h p = cc
plain_pointer (Integer b) v h p = cc
plain_pointer (Enum b d) v h p = cc
plain_pointer (Pointer t) v h p = (and_parts v (is_plain_void_pointer (Pointer t)) h).1
plain_pointer (Array t n) v h p = cc
plain_pointer (Struct s) v h p = cc
plain_pointer (Function t ps w) v h p = cc

converted_null : (f : Form) (e whole : unit.Expr) (b : Bool) → is_plain_void_pointer f ≡ b → form_of whole ≡ f →
    (if b then is_zero_constant (integer_constant e) else is_zero_constant (integer_constant whole)) ≡ true → is_pointer f ≡ true → is_plain_void_pointer f ≡ true
converted_null f e whole true is same h p = is
converted_null f e whole false is same h p = absurd (no_pointer whole h (ap is_pointer same ∙ p))

pub null_is_void_pointer : (e : unit.Expr) → is_null_constant e ≡ true → is_pointer (form_of e) ≡ true → is_plain_void_pointer (form_of e) ≡ true
null_is_void_pointer (unit.Constant value type mark) h p = plain_pointer (form_of_type type) (is_zero value) h p
null_is_void_pointer (unit.Convert origin type e mark) h p =
    converted_null (form_of_type type) e (unit.Convert origin type e mark) (is_plain_void_pointer (form_of_type type)) refl refl h p
null_is_void_pointer (unit.Load object mark) h p = absurd (no_pointer (unit.Load object mark) h p)
null_is_void_pointer (unit.Address origin object mark) h p = absurd (no_pointer (unit.Address origin object mark) h p)
null_is_void_pointer (unit.FunctionRef id type by_name mark) h p = absurd (no_pointer (unit.FunctionRef id type by_name mark) h p)
null_is_void_pointer (unit.Unary o operand mark) h p = absurd (no_pointer (unit.Unary o operand mark) h p)
null_is_void_pointer (unit.Binary o left right mark) h p = absurd (no_pointer (unit.Binary o left right mark) h p)
null_is_void_pointer (unit.Logic o left right mark) h p = absurd (no_pointer (unit.Logic o left right mark) h p)
null_is_void_pointer (unit.Choice condition first second mark) h p = absurd (no_pointer (unit.Choice condition first second mark) h p)
null_is_void_pointer (unit.Call function arguments mark) h p = absurd (no_pointer (unit.Call function arguments mark) h p)
null_is_void_pointer (unit.Assign assignment object value mark) h p = absurd (no_pointer (unit.Assign assignment object value mark) h p)
null_is_void_pointer (unit.Step o side type object mark) h p = absurd (no_pointer (unit.Step o side type object mark) h p)
null_is_void_pointer (unit.MemberValue structure rank type name mark) h p = absurd (no_pointer (unit.MemberValue structure rank type name mark) h p)
null_is_void_pointer (unit.Comma first second mark) h p = absurd (no_pointer (unit.Comma first second mark) h p)

void_not_moved : (structs : List Structure) (f : Form) → is_plain_void_pointer f ≡ true → can_move structs f ≡ true → ⊥
void_not_moved structs (Pointer (typed Void q)) h m = both_ways false refl m
void_not_moved structs f h m = cc

-- so it isn't moved
pub null_not_moved : (structs : List Structure) (e : unit.Expr) → is_null_constant e ≡ true → is_pointer (form_of e) ≡ true →
    points_to_object structs (form_of e) ≡ true → ⊥
null_not_moved structs e h p m =
    void_not_moved structs (form_of e) (null_is_void_pointer e h p) (and_parts (is_object_pointer (form_of e)) (can_move structs (form_of e)) m).1

-- ---- a null pointer constant is a scalar

zero_scalar : (e : unit.Expr) → is_zero_constant (integer_constant e) ≡ true → is_scalar (form_of e) ≡ true
zero_scalar e h = integer_scalar (form_of e) (built_is_integer e (zero_is_built (is_built_of_constants e) (constant_value e) h))

plain_scalar : (f : Form) → is_plain_void_pointer f ≡ true → is_scalar f ≡ true
plain_scalar Void h = cc
plain_scalar (Integer b) h = refl
plain_scalar (Enum b d) h = refl
plain_scalar (Pointer t) h = refl
plain_scalar (Array t n) h = cc
plain_scalar (Struct s) h = cc
plain_scalar (Function t ps v) h = cc

constant_scalar : (f : Form) (v : Bool) → v && (is_integer f || is_plain_void_pointer f) ≡ true → is_scalar f ≡ true
constant_scalar f v h = elim (or_cases (is_integer f) (is_plain_void_pointer f) (and_parts v (is_integer f || is_plain_void_pointer f) h).1) [
  | inl integer ↦ integer_scalar f integer
  | inr plain ↦ plain_scalar f plain
]

converted_scalar : (f : Form) (e whole : unit.Expr) (b : Bool) → is_plain_void_pointer f ≡ b → form_of whole ≡ f →
    (if b then is_zero_constant (integer_constant e) else is_zero_constant (integer_constant whole)) ≡ true → is_scalar f ≡ true
converted_scalar f e whole true is same h = plain_scalar f is
converted_scalar f e whole false is same h = ap is_scalar (sym same) ∙ zero_scalar whole h

pub null_is_scalar : (e : unit.Expr) → is_null_constant e ≡ true → is_scalar (form_of e) ≡ true
null_is_scalar (unit.Constant value type mark) h = constant_scalar (form_of_type type) (is_zero value) h
null_is_scalar (unit.Convert origin type e mark) h =
    converted_scalar (form_of_type type) e (unit.Convert origin type e mark) (is_plain_void_pointer (form_of_type type)) refl refl h
null_is_scalar (unit.Load object mark) h = zero_scalar (unit.Load object mark) h
null_is_scalar (unit.Address origin object mark) h = zero_scalar (unit.Address origin object mark) h
null_is_scalar (unit.FunctionRef id type by_name mark) h = zero_scalar (unit.FunctionRef id type by_name mark) h
null_is_scalar (unit.Unary o operand mark) h = zero_scalar (unit.Unary o operand mark) h
null_is_scalar (unit.Binary o left right mark) h = zero_scalar (unit.Binary o left right mark) h
null_is_scalar (unit.Logic o left right mark) h = zero_scalar (unit.Logic o left right mark) h
null_is_scalar (unit.Choice condition first second mark) h = zero_scalar (unit.Choice condition first second mark) h
null_is_scalar (unit.Call function arguments mark) h = zero_scalar (unit.Call function arguments mark) h
null_is_scalar (unit.Assign assignment object value mark) h = zero_scalar (unit.Assign assignment object value mark) h
null_is_scalar (unit.Step o side type object mark) h = zero_scalar (unit.Step o side type object mark) h
null_is_scalar (unit.MemberValue structure rank type name mark) h = zero_scalar (unit.MemberValue structure rank type name mark) h
null_is_scalar (unit.Comma first second mark) h = zero_scalar (unit.Comma first second mark) h
