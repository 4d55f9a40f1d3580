-- Implied conversions of typed values, by themselves.
use Rattle.std.proofs.Common.{◌≡◌, ◌∙◌, ap, refl, true, false, IsTrue}
use Rattle.model_types.specs.declared.numbers.Basic.{Basic}
use Rattle.model_types.specs.declared.numbers.BinOp.{BinOp}
use Rattle.model_types.specs.declared.marks.Mark.{Mark}
use Rattle.model_types.specs.declared.marks.Origin.TheVariants.{Implied}
use Rattle.model_types.specs.Types.{CType, Integer, form_of_type}
use Rattle.model_types.specs.Conversions.{common, is_shift}
use Rattle.model_core.specs.CoreTypes.{unqualified}
use Rattle.model_core.specs.SameTypes.{is_integer, is_null_constant}
use Rattle.model_core.specs.TypedParts.{converts, implied_fits, is_promoted}
use Rattle.model_core.specs.TypedExpr.{form_of, is_typed}
use Rattle.model_core.specs.Core as unit
use Rattle.model_checking.specs.MadeCore.{converted, integer_type}
use Rattle.typed_rule_laws.proofs.TypeForms.{unqualified_form}
use Rattle.typed_rule_laws.proofs.Values.{value_not_array}
use Rattle.typed_rule_laws.proofs.Integers as integers
use Rattle.typed_rule_laws.proofs.Converted.{converts_to_value, to_integer_form}

convert_fits : (type : CType) (e : unit.Expr) (mark : Mark) → converts (is_null_constant e) (form_of e) (form_of_type type) ≡ true →
    implied_fits (is_null_constant e) (form_of e) (form_of_type type) ≡ true → IsTrue (is_typed e) →
    is_typed (unit.Convert Implied (unqualified type) e mark) ≡ true
convert_fits type e mark c i known =
    let t : is_typed e ≡ true = cc in
    let same = unqualified_form type (value_not_array (form_of_type type) (converts_to_value (is_null_constant e) (form_of e) (form_of_type type) c)) in
    rw (t, ap (converts (is_null_constant e) (form_of e)) same ∙ c, ap (implied_fits (is_null_constant e) (form_of e)) same ∙ i) refl

pub converted_is_typed : (type made : CType) (e : unit.Expr) (mark : Mark) → made ≡ unqualified type →
    converts (is_null_constant e) (form_of e) (form_of_type type) ≡ true → implied_fits (is_null_constant e) (form_of e) (form_of_type type) ≡ true →
    IsTrue (is_typed e) → IsTrue (is_typed (unit.Convert Implied made e mark))
converted_is_typed type made e mark same c i known =
    let t : is_typed (unit.Convert Implied made e mark) ≡ true = ap (λ x. is_typed (unit.Convert Implied x e mark)) same ∙ convert_fits type e mark c i known in
    cc

pub integer_may_convert : (e : unit.Expr) (b : Basic) → is_integer (form_of e) ≡ true → converts (is_null_constant e) (form_of e) (Integer b) ≡ true
integer_may_convert e b h = integers.integer_converts (is_null_constant e) (form_of e) b h

pub integer_may_imply : (e : unit.Expr) (b : Basic) → implied_fits (is_null_constant e) (form_of e) (Integer b) ≡ true
integer_may_imply e b = refl

pub same_integers_fit : (o : BinOp) (b : Basic) (x y : unit.Expr) (mark : Mark) → is_shift o ≡ false → is_promoted (Integer b) ≡ true →
    form_of x ≡ Integer b → form_of y ≡ Integer b → IsTrue (is_typed x) → IsTrue (is_typed y) → is_typed (unit.Binary o x y mark) ≡ true
same_integers_fit o b x y mark s p ex ey tx ty =
    let t : is_typed x ≡ true = cc in
    let u : is_typed y ≡ true = cc in
    rw (t, u, ex, ey) (integers.takes_same o (Integer b) s p)

pub common_promoted : (a b : Basic) → is_promoted (Integer (common a b)) ≡ true
common_promoted a b = integers.common_is_promoted a b

pub integer_form : (b : Basic) (e : unit.Expr) → form_of (converted (integer_type b) e) ≡ Integer b
integer_form b e = to_integer_form b e
