-- Implied conversions of typed values are typed, and give the type that was asked for.
use Rattle.std.proofs.Common.{◌≡◌, ◌∙◌, ap, refl, Bool, true, false, if◌then◌else◌, List}
use Rattle.model_types.specs.declared.numbers.Basic.{Basic}
use Rattle.model_types.specs.declared.numbers.Basic.TheVariants as basic
use Rattle.model_types.specs.declared.numbers.BinOp.{BinOp}
use Rattle.model_types.specs.declared.numbers.BinOp.TheVariants as op
use Rattle.model_types.specs.declared.marks.Mark.{Mark}
use Rattle.model_types.specs.declared.marks.Origin.TheVariants.{Implied}
use Rattle.model_types.specs.Types.{CType, Form, Void, Integer, Enum, Pointer, Array, Struct, Function, form_of_type}
use Rattle.model_types.specs.Structures.{Structure}
use Rattle.model_types.specs.Conversions.{promoted, common, is_shift}
use Rattle.model_core.specs.CoreTypes.{type_of, unqualified, is_pointer, binary_type}
use Rattle.model_core.specs.SameTypes.{is_integer, is_null_constant, same_form, same_value_type}
use Rattle.model_core.specs.TypedParts.{is_array, converts, implied_fits, is_promoted}
use Rattle.model_core.specs.TypedExpr.{form_of}
use Rattle.model_core.specs.PossibleTypes.{is_possible, is_value_form}
use Rattle.model_core.specs.SourceMarks.{expr_mark}
use Rattle.model_core.specs.Core as unit
use Rattle.model_checking.specs.MadeCore.{converted, integer_type, basic_in, promoted_value, in_common_type}
use Rattle.typed_rule_laws.specs.TypedMeanings.{is_value_type, is_typed_value}
use Rattle.typed_rule_laws.proofs.TypeForms.{unqualified_form, form_self}
use Rattle.typed_rule_laws.proofs.Values.{value_parts, value_from, value_type_from, value_not_array, unqualified_value_type}
use Rattle.typed_rule_laws.proofs.Integers.{same_integer_is, promoted_is_promoted, common_is_promoted, takes_same, integer_converts}

-- ---- a conversion that assigning may make

pub converts_to_value : (null : Bool) (from to : Form) → converts null from to ≡ true → is_value_form to ≡ true
converts_to_value null from Void h = refl
converts_to_value null from (Integer b) h = refl
converts_to_value null from (Enum b d) h = refl
converts_to_value null from (Pointer t) h = refl
converts_to_value null from (Array t n) h = cc
converts_to_value null from (Struct s) h = refl
converts_to_value null from (Function t ps v) h = cc

convert_is_typed : (structs : List Structure) (type : CType) (e : unit.Expr) (mark : Mark) → is_typed_value structs e ≡ true → is_possible structs type ≡ true →
    converts (is_null_constant e) (form_of e) (form_of_type type) ≡ true → implied_fits (is_null_constant e) (form_of e) (form_of_type type) ≡ true →
    is_typed_value structs (unit.Convert Implied (unqualified type) e mark) ≡ true
convert_is_typed structs type e mark h p c i =
    let value = converts_to_value (is_null_constant e) (form_of e) (form_of_type type) c in
    let same = unqualified_form type (value_not_array (form_of_type type) value) in
    value_from structs (unit.Convert Implied (unqualified type) e mark)
    (rw ((value_parts structs e h).typed_by, ap (converts (is_null_constant e) (form_of e)) same ∙ c, ap (implied_fits (is_null_constant e) (form_of e)) same ∙ i) refl)
    (unqualified_value_type structs type p value)

converted_by : (structs : List Structure) (type : CType) (e : unit.Expr) (b : Bool) → is_typed_value structs e ≡ true → is_possible structs type ≡ true →
    converts (is_null_constant e) (form_of e) (form_of_type type) ≡ true → implied_fits (is_null_constant e) (form_of e) (form_of_type type) ≡ true →
    is_typed_value structs (if b then e else unit.Convert Implied (unqualified type) e (expr_mark e)) ≡ true
converted_by structs type e true h p c i = h
converted_by structs type e false h p c i = convert_is_typed structs type e (expr_mark e) h p c i

pub converted_is_typed : (structs : List Structure) (type : CType) (e : unit.Expr) → is_typed_value structs e ≡ true → is_possible structs type ≡ true →
    converts (is_null_constant e) (form_of e) (form_of_type type) ≡ true → implied_fits (is_null_constant e) (form_of e) (form_of_type type) ≡ true →
    is_typed_value structs (converted type e) ≡ true
converted_is_typed structs type e h p c i = converted_by structs type e (same_value_type type (type_of e)) h p c i

same_by : (type : CType) (e : unit.Expr) (mark : Mark) (b : Bool) → same_value_type type (type_of e) ≡ b → is_array (form_of_type type) ≡ false →
    same_value_type type (type_of (if b then e else unit.Convert Implied (unqualified type) e mark)) ≡ true
same_by type e mark true same a = same
same_by type e mark false same a = ap (same_form (form_of_type type)) (unqualified_form type a) ∙ form_self (form_of_type type)

pub converted_has_type : (type : CType) (e : unit.Expr) → is_array (form_of_type type) ≡ false → same_value_type type (type_of (converted type e)) ≡ true
converted_has_type type e a = same_by type e (expr_mark e) (same_value_type type (type_of e)) refl a

pub converted_is_of_type : (type : CType) (e : unit.Expr) → converts (is_null_constant e) (form_of e) (form_of_type type) ≡ true →
    same_value_type type (type_of (converted type e)) ≡ true
converted_is_of_type type e c =
    converted_has_type type e (value_not_array (form_of_type type) (converts_to_value (is_null_constant e) (form_of e) (form_of_type type) c))

-- ---- to an integer type

pub to_integer_is_typed : (structs : List Structure) (b : Basic) (e : unit.Expr) → is_typed_value structs e ≡ true → is_integer (form_of e) ≡ true →
    is_typed_value structs (converted (integer_type b) e) ≡ true
to_integer_is_typed structs b e h n =
    converted_is_typed structs (integer_type b) e h refl (integer_converts (is_null_constant e) (form_of e) b n) refl

pub to_integer_form : (b : Basic) (e : unit.Expr) → form_of (converted (integer_type b) e) ≡ Integer b
to_integer_form b e = same_integer_is b (form_of (converted (integer_type b) e)) (converted_has_type (integer_type b) e refl)

pub promoted_value_is_typed : (structs : List Structure) (e : unit.Expr) → is_typed_value structs e ≡ true → is_integer (form_of e) ≡ true →
    is_typed_value structs (promoted_value e) ≡ true
promoted_value_is_typed structs e h n = to_integer_is_typed structs (promoted (basic_in e)) e h n

pub promoted_value_form : (e : unit.Expr) → form_of (promoted_value e) ≡ Integer (promoted (basic_in e))
promoted_value_form e = to_integer_form (promoted (basic_in e)) e

pub promoted_value_promoted : (e : unit.Expr) → is_promoted (form_of (promoted_value e)) ≡ true
promoted_value_promoted e = ap is_promoted (promoted_value_form e) ∙ promoted_is_promoted (basic_in e)

-- ---- the type of an operation is that of one of its operands, int or long

chosen_type : (P : CType → Type 0) (b : Bool) (t u : CType) → P t → P u → P (if b then t else u)
chosen_type P true t u h k = h
chosen_type P false t u h k = k

pub type_of_binary : (P : CType → Type 0) (o : BinOp) (t u : CType) → P (integer_type basic.Int) → P (integer_type basic.Long) → P t → P u → P (binary_type o t u)
type_of_binary P op.Mul t u int long h k = chosen_type P (is_pointer (form_of_type u)) u t k h
type_of_binary P op.Div t u int long h k = chosen_type P (is_pointer (form_of_type u)) u t k h
type_of_binary P op.Rem t u int long h k = chosen_type P (is_pointer (form_of_type u)) u t k h
type_of_binary P op.Add t u int long h k = chosen_type P (is_pointer (form_of_type u)) u t k h
type_of_binary P op.Sub t u int long h k =
    chosen_type P (is_pointer (form_of_type t)) (if is_pointer (form_of_type u) then integer_type basic.Long else t) t
    (chosen_type P (is_pointer (form_of_type u)) (integer_type basic.Long) t long h) h
type_of_binary P op.ShiftLeft t u int long h k = chosen_type P (is_pointer (form_of_type u)) u t k h
type_of_binary P op.ShiftRight t u int long h k = chosen_type P (is_pointer (form_of_type u)) u t k h
type_of_binary P op.Less t u int long h k = int
type_of_binary P op.Greater t u int long h k = int
type_of_binary P op.LessEqual t u int long h k = int
type_of_binary P op.GreaterEqual t u int long h k = int
type_of_binary P op.Equal t u int long h k = int
type_of_binary P op.NotEqual t u int long h k = int
type_of_binary P op.BitAnd t u int long h k = chosen_type P (is_pointer (form_of_type u)) u t k h
type_of_binary P op.BitXor t u int long h k = chosen_type P (is_pointer (form_of_type u)) u t k h
type_of_binary P op.BitOr t u int long h k = chosen_type P (is_pointer (form_of_type u)) u t k h

pub binary_value_type : (structs : List Structure) (o : BinOp) (t u : CType) → is_value_type structs t ≡ true → is_value_type structs u ≡ true →
    is_value_type structs (binary_type o t u) ≡ true
binary_value_type structs o t u h k = type_of_binary (λ t. is_value_type structs t ≡ true) o t u refl refl h k

-- ---- in the common type

pub common_is_typed : (structs : List Structure) (o : BinOp) (mark : Mark) (a b : unit.Expr) → is_shift o ≡ false →
    is_typed_value structs a ≡ true → is_typed_value structs b ≡ true → is_integer (form_of a) ≡ true → is_integer (form_of b) ≡ true →
    is_typed_value structs (in_common_type o mark a b) ≡ true
common_is_typed structs o mark a b s ha hb na nb =
    let c = common (basic_in a) (basic_in b) in
    let ta = value_parts structs (converted (integer_type c) a) (to_integer_is_typed structs c a ha na) in
    let tb = value_parts structs (converted (integer_type c) b) (to_integer_is_typed structs c b hb nb) in
    value_from structs (in_common_type o mark a b)
    (rw (ta.typed_by, tb.typed_by, to_integer_form c a, to_integer_form c b) (takes_same o (Integer c) s (common_is_promoted (basic_in a) (basic_in b))))
    (binary_value_type structs o (type_of (converted (integer_type c) a)) (type_of (converted (integer_type c) b))
    (value_type_from structs (type_of (converted (integer_type c) a)) ta.possible ta.of_value)
    (value_type_from structs (type_of (converted (integer_type c) b)) tb.possible tb.of_value))
