-- What casts make is typed.
use Rattle.std.proofs.Common.{◌≡◌, ◌∙◌, ap, refl, Bool, true, ◌&&◌, IsTrue, List, None}
use Rattle.std.proofs.lemmas.Bool.{and_parts}
use Rattle.cake_base.specs.declared.places.Place.{Place}
use Rattle.model_types.specs.declared.marks.Mark.{Mark}
use Rattle.model_types.specs.declared.marks.Origin.TheVariants.{Written}
use Rattle.model_types.specs.Types.{CType, form_of_type}
use Rattle.model_types.specs.Structures.{Structure}
use Rattle.model_core.specs.CoreTypes.{unqualified}
use Rattle.model_core.specs.SameTypes.{is_null_constant}
use Rattle.model_core.specs.TypedParts.{converts, origin_fits}
use Rattle.model_core.specs.TypedExpr.{form_of, is_typed}
use Rattle.model_core.specs.Core as unit
use Rattle.model_checking.specs.MadeCore.{unread_fault}
use Rattle.model_checking.specs.CastRules.{may_be_cast}
use Rattle.check_base.specs.declared.meanings.OperandValue.{OperandValue}
use Rattle.check_base.specs.Meanings.{value_in}
use Rattle.check_assignments.specs.HeldBy.{has_value}
use Rattle.check_assignments.proofs.CallLaws.{typed_has_value}
use Rattle.typed_rule_laws.specs.TypedMeanings.{is_typed_operand}
use Rattle.typed_rule_laws.proofs.TypeForms.{unqualified_form}
use Rattle.typed_rule_laws.proofs.Values.{value_parts, value_not_array}
use Rattle.typed_rule_laws.proofs.Converted.{converts_to_value}
use Rattle.typed_rule_laws.proofs.CastForms.{read_operand}

cast_typed : (type : CType) (e : unit.Expr) (mark : Mark) → may_be_cast type e ≡ true → IsTrue (is_typed e) →
    is_typed (unit.Convert Written (unqualified type) e mark) ≡ true
cast_typed type e mark may known =
    let t : is_typed e ≡ true = cc in
    let null = is_null_constant e in
    let parts = and_parts (converts null (form_of e) (form_of_type type)) (origin_fits Written null (form_of e) (form_of_type type)) may in
    let same = unqualified_form type (value_not_array (form_of_type type) (converts_to_value null (form_of e) (form_of_type type) parts.0)) in
    rw (t, ap (converts null (form_of e)) same ∙ parts.0, ap (origin_fits Written null (form_of e)) same ∙ parts.1) refl

pub cast_fits : (type bare : CType) (e : unit.Expr) (mark : Mark) → bare ≡ unqualified type → may_be_cast type e ≡ true → IsTrue (is_typed e) →
    IsTrue (is_typed (unit.Convert Written bare e mark))
cast_fits type bare e mark same may known =
    ap (λ (t : CType). is_typed (unit.Convert Written t e mark)) same ∙ cast_typed type e mark may known

pub unread_has_value : (structs : List Structure) (first : Place) (v : OperandValue) → is_typed_operand structs (value_in v) ≡ true →
    unread_fault structs (record { value = value_in v; first = first }) ≡ None → has_value v ≡ true
unread_has_value structs first v h n =
    typed_has_value v (value_parts structs (value_in v) (read_operand structs (record { value = value_in v; first = first }) h n)).typed_by
