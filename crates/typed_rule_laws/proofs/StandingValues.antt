-- Values of meanings that stand in a unit stand there, and so do conversions of them.
use Rattle.std.proofs.Common.{◌≡◌, ◌∙◌, sym, refl, ℤ, Bool, true, false, ◌&&◌, if◌then◌else◌, Some, None, List}
use Rattle.std.proofs.lemmas.Bool.{and_parts, and_from}
use Rattle.model_types.specs.declared.numbers.Basic.{Basic}
use Rattle.model_types.specs.declared.numbers.BinOp.{BinOp}
use Rattle.model_types.specs.declared.numbers.BinOp.TheVariants as op
use Rattle.model_types.specs.declared.marks.Mark.{Mark}
use Rattle.model_types.specs.declared.marks.Origin.TheVariants.{Implied}
use Rattle.model_types.specs.Types.{CType, typed, Form, Void, Integer, Enum, Pointer, Array, Struct, Function, form_of_type}
use Rattle.model_types.specs.Structures.{Structure}
use Rattle.model_types.specs.Layout.{is_complete}
use Rattle.model_types.specs.Conversions.{common, is_comparison}
use Rattle.model_core.specs.CoreTypes.{type_of, object_type, unqualified, is_pointer}
use Rattle.model_core.specs.SameTypes.{is_integer, is_plain_void_pointer, same_value_type}
use Rattle.model_core.specs.TypedParts.{is_array, is_scalar}
use Rattle.model_core.specs.TypedExpr.{form_of, object_form}
use Rattle.model_core.specs.TypedScope.{Scope, expr_stands, lvalue_stands, address_is_noted, can_move, moves_fit}
use Rattle.model_core.specs.PossibleTypes.{is_possible}
use Rattle.model_core.specs.SourceMarks.{expr_mark, lvalue_mark}
use Rattle.model_core.specs.Core as unit
use Rattle.model_checking.specs.Meanings.{Meaning, a_place, a_value, a_function, a_target}
use Rattle.model_checking.specs.MadeCore.{constant, value_of, converted, basic_in, promoted_value, promoted_type, common_type, in_common_type}
use Rattle.typed_rule_laws.specs.TypedMeanings.{is_typed_meaning}
use Rattle.typed_rule_laws.specs.StandingMeanings.{meaning_stands, operand_stands}
use Rattle.typed_rule_laws.proofs.TypeForms.{unqualified_possible, unqualified_complete}
use Rattle.typed_rule_laws.proofs.Values.{object_parts}
use Rattle.typed_rule_laws.proofs.Converted.{to_integer_form}
use Rattle.typed_rule_laws.proofs.Outcomes.{integer_scalar, pointer_scalar}
use Rattle.typed_rule_laws.proofs.UnaryForms.{place_object}

-- ---- the value of what an expression is

implied_noted : (s : Scope) (object : unit.Lvalue) → address_is_noted s Implied object ≡ true
implied_noted s (unit.Object id type mark) = refl
implied_noted s (unit.Deref pointer mark) = refl
implied_noted s (unit.Index is_second first second mark) = refl
implied_noted s (unit.Field structure rank type name mark) = refl
implied_noted s (unit.Arrow pointer rank type name mark) = refl
implied_noted s (unit.Literal origin id type values mark) = refl

unknown_stands : (s : Scope) (object : unit.Lvalue) (mark : Mark) (b : Bool) → lvalue_stands s object ≡ true →
    operand_stands s (if b then unit.Address Implied object mark else unit.Load object mark) ≡ true
unknown_stands s object mark true h = and_from (lvalue_stands s object) (address_is_noted s Implied object) h (implied_noted s object)
unknown_stands s object mark false h = h

known_stands : (s : Scope) (t : CType) (v : ℤ) (mark : Mark) (b : Bool) → is_possible s.core.structs t ≡ true →
    operand_stands s (if b then unit.Convert Implied (unqualified t) (constant v t mark) mark else constant v t mark) ≡ true
known_stands s t v mark true p =
    let possible = unqualified_possible s.core.structs t ∙ p in
    and_from (is_possible s.core.structs (unqualified t)) (is_possible s.core.structs (unqualified t)) possible possible
known_stands s t v mark false p = unqualified_possible s.core.structs t ∙ p

pub standing_operand : (s : Scope) (e : unit.Expr) → expr_stands s e ≡ true → operand_stands s e ≡ true
standing_operand s (unit.Load object mark) h = (and_parts (lvalue_stands s object) (is_complete s.core.structs (object_type object)) h).0
standing_operand s (unit.Constant value type mark) h = h
standing_operand s (unit.Address origin object mark) h = h
standing_operand s (unit.FunctionRef id type by_name mark) h = h
standing_operand s (unit.Unary o operand mark) h = h
standing_operand s (unit.Binary o left right mark) h = h
standing_operand s (unit.Logic o left right mark) h = h
standing_operand s (unit.Choice condition first second mark) h = h
standing_operand s (unit.Convert origin type operand mark) h = h
standing_operand s (unit.Call function arguments mark) h = h
standing_operand s (unit.Assign assignment object value mark) h = h
standing_operand s (unit.Step o side type object mark) h = h
standing_operand s (unit.MemberValue structure rank type name mark) h = h
standing_operand s (unit.Comma first second mark) h = h

pub value_stands : (s : Scope) (m : Meaning) → is_typed_meaning s.core.structs m ≡ true → meaning_stands s m ≡ true → operand_stands s (value_of m) ≡ true
value_stands s (a_place object None) t h = unknown_stands s object (lvalue_mark object) (is_array (object_form object)) h
value_stands s (a_place object (Some v)) t h =
    known_stands s (object_type object) v (lvalue_mark object) (is_plain_void_pointer (object_form object))
    (object_parts s.core.structs object (place_object s.core.structs object (Some v) t)).possible
value_stands s (a_value value) t h = standing_operand s value h
value_stands s (a_function id type by_name mark) t h = h
value_stands s (a_target pointer) t h = standing_operand s pointer h

pub operand_value_stands : (s : Scope) (e : unit.Expr) → operand_stands s e ≡ true → is_complete s.core.structs (type_of e) ≡ true → expr_stands s e ≡ true
operand_value_stands s (unit.Load object mark) h c =
    and_from (lvalue_stands s object) (is_complete s.core.structs (object_type object)) h (sym (unqualified_complete s.core.structs (object_type object)) ∙ c)
operand_value_stands s (unit.Constant value type mark) h k = h
operand_value_stands s (unit.Address origin object mark) h k = h
operand_value_stands s (unit.FunctionRef id type by_name mark) h k = h
operand_value_stands s (unit.Unary o operand mark) h k = h
operand_value_stands s (unit.Binary o left right mark) h k = h
operand_value_stands s (unit.Logic o left right mark) h k = h
operand_value_stands s (unit.Choice condition first second mark) h k = h
operand_value_stands s (unit.Convert origin type operand mark) h k = h
operand_value_stands s (unit.Call function arguments mark) h k = h
operand_value_stands s (unit.Assign assignment object value mark) h k = h
operand_value_stands s (unit.Step o side type object mark) h k = h
operand_value_stands s (unit.MemberValue structure rank type name mark) h k = h
operand_value_stands s (unit.Comma first second mark) h k = h

scalar_complete : (structs : List Structure) (t : CType) → is_scalar (form_of_type t) ≡ true → is_complete structs t ≡ true
scalar_complete structs (typed Void q) h = cc
scalar_complete structs (typed (Integer b) q) h = refl
scalar_complete structs (typed (Enum b d) q) h = refl
scalar_complete structs (typed (Pointer t) q) h = refl
scalar_complete structs (typed (Array t n) q) h = cc
scalar_complete structs (typed (Struct x) q) h = cc
scalar_complete structs (typed (Function t ps v) q) h = cc

pub scalar_stands : (s : Scope) (e : unit.Expr) → operand_stands s e ≡ true → is_scalar (form_of e) ≡ true → expr_stands s e ≡ true
scalar_stands s e h k = operand_value_stands s e h (scalar_complete s.core.structs (type_of e) k)

pub integer_stands : (s : Scope) (e : unit.Expr) → operand_stands s e ≡ true → is_integer (form_of e) ≡ true → expr_stands s e ≡ true
integer_stands s e h i = scalar_stands s e h (integer_scalar (form_of e) i)

pub pointer_stands : (s : Scope) (e : unit.Expr) → operand_stands s e ≡ true → is_pointer (form_of e) ≡ true → expr_stands s e ≡ true
pointer_stands s e h p = scalar_stands s e h (pointer_scalar (form_of e) p)

-- ---- conversions

converted_by : (s : Scope) (type : CType) (e : unit.Expr) (b : Bool) → is_possible s.core.structs type ≡ true → expr_stands s e ≡ true →
    expr_stands s (if b then e else unit.Convert Implied (unqualified type) e (expr_mark e)) ≡ true
converted_by s type e true p h = h
converted_by s type e false p h =
    and_from (is_possible s.core.structs (unqualified type)) (expr_stands s e) (unqualified_possible s.core.structs type ∙ p) h

pub converted_stands : (s : Scope) (type : CType) (e : unit.Expr) → is_possible s.core.structs type ≡ true → expr_stands s e ≡ true → expr_stands s (converted type e) ≡ true
converted_stands s type e p h = converted_by s type e (same_value_type type (type_of e)) p h

pub promoted_stands : (s : Scope) (e : unit.Expr) → expr_stands s e ≡ true → expr_stands s (promoted_value e) ≡ true
promoted_stands s e h = converted_stands s (promoted_type e) e refl h

-- ---- binary operations

pub operation_stands : (s : Scope) (o : BinOp) (a b : unit.Expr) (mark : Mark) → expr_stands s a ≡ true → expr_stands s b ≡ true →
    moves_fit s.core.structs o (form_of a) (form_of b) ≡ true → expr_stands s (unit.Binary o a b mark) ≡ true
operation_stands s o a b mark ha hb m =
    and_from (expr_stands s a && expr_stands s b) (moves_fit s.core.structs o (form_of a) (form_of b)) (and_from (expr_stands s a) (expr_stands s b) ha hb) m

pub integers_fit : (structs : List Structure) (o : BinOp) (a b : Basic) → moves_fit structs o (Integer a) (Integer b) ≡ true
integers_fit structs op.Mul a b = refl
integers_fit structs op.Div a b = refl
integers_fit structs op.Rem a b = refl
integers_fit structs op.Add a b = refl
integers_fit structs op.Sub a b = refl
integers_fit structs op.ShiftLeft a b = refl
integers_fit structs op.ShiftRight a b = refl
integers_fit structs op.Less a b = refl
integers_fit structs op.Greater a b = refl
integers_fit structs op.LessEqual a b = refl
integers_fit structs op.GreaterEqual a b = refl
integers_fit structs op.Equal a b = refl
integers_fit structs op.NotEqual a b = refl
integers_fit structs op.BitAnd a b = refl
integers_fit structs op.BitXor a b = refl
integers_fit structs op.BitOr a b = refl

pub comparison_fits : (structs : List Structure) (o : BinOp) (f g : Form) → is_comparison o ≡ true → moves_fit structs o f g ≡ true
comparison_fits structs op.Mul f g c = refl
comparison_fits structs op.Div f g c = refl
comparison_fits structs op.Rem f g c = refl
comparison_fits structs op.Add f g c = cc
comparison_fits structs op.Sub f g c = cc
comparison_fits structs op.ShiftLeft f g c = refl
comparison_fits structs op.ShiftRight f g c = refl
comparison_fits structs op.Less f g c = refl
comparison_fits structs op.Greater f g c = refl
comparison_fits structs op.LessEqual f g c = refl
comparison_fits structs op.GreaterEqual f g c = refl
comparison_fits structs op.Equal f g c = refl
comparison_fits structs op.NotEqual f g c = refl
comparison_fits structs op.BitAnd f g c = refl
comparison_fits structs op.BitXor f g c = refl
comparison_fits structs op.BitOr f g c = refl

pub common_stands : (s : Scope) (o : BinOp) (mark : Mark) (a b : unit.Expr) → expr_stands s a ≡ true → expr_stands s b ≡ true → expr_stands s (in_common_type o mark a b) ≡ true
common_stands s o mark a b ha hb =
    let c = common (basic_in a) (basic_in b) in
    let left = to_integer_form c a in
    let right = to_integer_form c b in
    operation_stands s o (converted (common_type a b) a) (converted (common_type a b) b) mark
    (converted_stands s (common_type a b) a refl ha) (converted_stands s (common_type a b) b refl hb)
    ((λ i. moves_fit s.core.structs o (left i) (right i)) ∙ integers_fit s.core.structs o c c)

-- ---- what is moved

movable_by : (structs : List Structure) (f : Form) (b : Bool) → is_pointer f ≡ b → (is_pointer f ≡ true → can_move structs f ≡ true) → can_move structs f ≡ true
movable_by structs f true e h = h e
movable_by structs f false e h = rw e refl

pub movable : (structs : List Structure) (f : Form) → (is_pointer f ≡ true → can_move structs f ≡ true) → can_move structs f ≡ true
movable structs f h = movable_by structs f (is_pointer f) refl h
