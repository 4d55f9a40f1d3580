-- What casts and the comma make is typed.
use Rattle.std.proofs.Common.{◌≡◌, ◌∙◌, ap, refl, Bool, true, false, if◌then◌else◌, List, None, Result, Ok}
use Rattle.std.proofs.lemmas.Bool.{and_parts, and_from}
use Rattle.cake_base.specs.declared.places.Place.{Place}
use Rattle.cake_base.specs.declared.rules.Fault.{Fault}
use Rattle.model_types.specs.declared.marks.Mark.{Mark}
use Rattle.model_types.specs.declared.marks.Origin.TheVariants.{Written}
use Rattle.model_types.specs.Types.{CType, typed, Void, Integer, Enum, Pointer, Array, Struct, Function, form_of_type}
use Rattle.model_types.specs.Structures.{Structure}
use Rattle.model_types.specs.Layout.{is_complete}
use Rattle.model_core.specs.CoreTypes.{type_of, object_type, unqualified, is_void}
use Rattle.model_core.specs.SameTypes.{is_null_constant}
use Rattle.model_core.specs.TypedParts.{converts, origin_fits}
use Rattle.model_core.specs.TypedExpr.{form_of, is_typed}
use Rattle.model_core.specs.PossibleTypes.{is_possible}
use Rattle.model_core.specs.Core as unit
use Rattle.model_checking.specs.State.{unless}
use Rattle.model_checking.specs.Meanings.{Meaning, a_value, Operand}
use Rattle.model_checking.specs.Faults.{or_fault}
use Rattle.model_checking.specs.MadeCore.{used_fault, unread_fault}
use Rattle.model_checking.specs.CastRules.{may_be_cast, cast}
use Rattle.model_checking.specs.ChoiceRules.{comma_left, comma}
use Rattle.typed_rule_laws.specs.TypedMeanings.{is_typed_value, is_typed_operand, GivesTyped}
use Rattle.typed_rule_laws.proofs.TypeForms.{unqualified_form, unqualified_complete}
use Rattle.typed_rule_laws.proofs.Values.{value_parts, value_from, value_type_from, value_not_array, unqualified_value_type, operand_is_value}
use Rattle.typed_rule_laws.proofs.Converted.{converts_to_value}
use Rattle.typed_rule_laws.proofs.Outcomes.{where_wanted, where_none, neither, used}
use Rattle.typed_rule_laws.proofs.UnaryForms.{IsTyped}

-- ---- an operand whose value may be void is typed, where an object has a value

pub complete_not_void : (structs : List Structure) (t : CType) → is_complete structs t ≡ true → is_void t ≡ false
complete_not_void structs (typed Void q) c = cc
complete_not_void structs (typed (Integer b) q) c = refl
complete_not_void structs (typed (Enum b d) q) c = refl
complete_not_void structs (typed (Pointer t) q) c = refl
complete_not_void structs (typed (Array t n) q) c = refl
complete_not_void structs (typed (Struct s) q) c = refl
complete_not_void structs (typed (Function t ps v) q) c = refl

read_by : (structs : List Structure) (object : unit.Lvalue) (mark : Mark) (first : Place) (b : Bool) → is_complete structs (object_type object) ≡ b →
    is_typed_operand structs (unit.Load object mark) ≡ true →
    (if (if b then false else true) then used_fault structs (record { value = unit.Load object mark; first = first }) else None) ≡ None →
    is_typed_value structs (unit.Load object mark) ≡ true
read_by structs object mark first true c h n =
    operand_is_value structs (unit.Load object mark) h
    (complete_not_void structs (unqualified (object_type object)) (unqualified_complete structs (object_type object) ∙ c))
read_by structs object mark first false c h n =
    operand_is_value structs (unit.Load object mark) h (used structs (record { value = unit.Load object mark; first = first }) n).not_void

read_value : (structs : List Structure) (e : unit.Expr) (place : Place) → is_typed_operand structs e ≡ true →
    unread_fault structs (record { value = e; first = place }) ≡ None → is_typed_value structs e ≡ true
read_value structs (unit.Load object mark) place h n = read_by structs object mark place (is_complete structs (object_type object)) refl h n
read_value structs (unit.Constant value type mark) place h n = h
read_value structs (unit.Address origin object mark) place h n = h
read_value structs (unit.FunctionRef id type by_name mark) place h n = h
read_value structs (unit.Unary o operand mark) place h n = h
read_value structs (unit.Binary o left right mark) place h n = h
read_value structs (unit.Logic o left right mark) place h n = h
read_value structs (unit.Choice condition first second mark) place h n = h
read_value structs (unit.Convert origin type operand mark) place h n = h
read_value structs (unit.Call function arguments mark) place h n = h
read_value structs (unit.Assign assignment object value mark) place h n = h
read_value structs (unit.Step o side type object mark) place h n = h
read_value structs (unit.MemberValue structure rank type name mark) place h n = h
read_value structs (unit.Comma first second mark) place h n = h

pub read_operand : (structs : List Structure) (o : Operand) → is_typed_operand structs o.value ≡ true → unread_fault structs o ≡ None → is_typed_value structs o.value ≡ true
read_operand structs o h n = read_value structs o.value o.first h n

-- ---- casts

cast_value : (structs : List Structure) (mark : Mark) (type : CType) (e : unit.Expr) → is_possible structs type ≡ true → is_typed_value structs e ≡ true →
    may_be_cast type e ≡ true → is_typed_value structs (unit.Convert Written (unqualified type) e mark) ≡ true
cast_value structs mark type e p h c =
    let null = is_null_constant e in
    let parts = and_parts (converts null (form_of e) (form_of_type type)) (origin_fits Written null (form_of e) (form_of_type type)) c in
    let value = converts_to_value null (form_of e) (form_of_type type) parts.0 in
    let same = unqualified_form type (value_not_array (form_of_type type) value) in
    value_from structs (unit.Convert Written (unqualified type) e mark)
    (rw ((value_parts structs e h).typed_by, ap (converts null (form_of e)) same ∙ parts.0, ap (origin_fits Written null (form_of e)) same ∙ parts.1) refl)
    (unqualified_value_type structs type p value)

pub cast_is_typed : (structs : List Structure) (mark : Mark) (type : CType) (o : Operand) → is_possible structs type ≡ true →
    is_typed_operand structs o.value ≡ true → GivesTyped structs (cast structs mark type o)
cast_is_typed structs mark type o p h =
    let made : Result Meaning Fault = Ok (a_value (unit.Convert Written (unqualified type) o.value mark)) in
    where_wanted (IsTyped structs) (may_be_cast type o.value) mark.at 18 (unless (unread_fault structs o) made) (λ w.
    where_none (IsTyped structs) (unread_fault structs o) made (λ n. cast_value structs mark type o.value p (read_operand structs o h n) w))

-- ---- the comma

pub comma_is_typed : (structs : List Structure) (mark : Mark) (a b : Operand) → is_typed_operand structs a.value ≡ true → is_typed_operand structs b.value ≡ true →
    GivesTyped structs (comma structs mark a b)
comma_is_typed structs mark a b ha hb =
    where_none (IsTyped structs) (or_fault (comma_left structs a) (unread_fault structs b)) (Ok (a_value (unit.Comma a.value b.value mark))) (λ n.
    let faults = neither (comma_left structs a) (unread_fault structs b) n in
    let first = value_parts structs a.value (read_operand structs a ha faults.first) in
    let second = value_parts structs b.value (read_operand structs b hb faults.second) in
    value_from structs (unit.Comma a.value b.value mark) (and_from (is_typed a.value) (is_typed b.value) first.typed_by second.typed_by)
    (value_type_from structs (type_of b.value) second.possible second.of_value))
