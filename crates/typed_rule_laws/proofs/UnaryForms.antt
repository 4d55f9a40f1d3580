-- What the rules of unary operators make is typed.
use Rattle.std.proofs.Common.{◌≡◌, ◌∙◌, ap, sym, refl, Bool, true, false, ◌&&◌, not, if◌then◌else◌, Option, Some, None, Ok, List, ℤ}
use Rattle.std.proofs.lemmas.Bool.{and_parts, and_from, or_parts, not-true}
use Rattle.cake_base.specs.declared.places.Place.{Place}
use Rattle.model_types.specs.declared.numbers.Basic.TheVariants as basic
use Rattle.model_types.specs.declared.operators.UnaryOp.TheVariants as op
use Rattle.model_types.specs.declared.operators.StepOp.{StepOp}
use Rattle.model_types.specs.declared.operators.StepSide.{StepSide}
use Rattle.model_types.specs.declared.operators.StepSide.TheVariants.{Prefix, Postfix}
use Rattle.model_types.specs.declared.marks.Mark.{Mark}
use Rattle.model_types.specs.declared.marks.Origin.TheVariants.{Written, Implied}
use Rattle.model_types.specs.Types.{CType, typed, Form, Void, Integer, Enum, Pointer, Array, Struct, Function, form_of_type, quals_of_type}
use Rattle.model_types.specs.Structures.{Structure}
use Rattle.model_types.specs.Layout.{is_complete}
use Rattle.model_types.specs.Conversions.{common}
use Rattle.model_grammar.specs.declared.syntax.PrefixOp.{PrefixOp}
use Rattle.model_grammar.specs.declared.syntax.PrefixOp.TheVariants as prefix
use Rattle.model_core.specs.CoreTypes.{type_of, object_type, unqualified, is_pointer, is_void, basic_of, pointee}
use Rattle.model_core.specs.SameTypes.{is_integer, is_plain_void_pointer}
use Rattle.model_core.specs.TypedParts.{is_array, is_function, is_scalar, is_function_pointer, is_object_pointer, is_storable, may_be_assigned, step_fits}
use Rattle.model_core.specs.TypedExpr.{form_of, object_form, is_typed, is_typed_lvalue}
use Rattle.model_core.specs.TypedScope.{can_move}
use Rattle.model_core.specs.PossibleTypes.{is_possible}
use Rattle.model_core.specs.MemberTypes.{is_const_somewhere}
use Rattle.model_core.specs.SourceMarks.{lvalue_mark}
use Rattle.model_core.specs.Core as unit
use Rattle.model_checking.specs.State.{unless}
use Rattle.model_checking.specs.Meanings.{Meaning, a_place, a_value, a_function, a_target, Operand}
use Rattle.model_checking.specs.Faults.{wants}
use Rattle.model_checking.specs.MadeCore.{operand, value_of, promoted_value, integer_type, constant, object_value}
use Rattle.model_checking.specs.HeldValues.{is_held}
use Rattle.model_checking.specs.PointerRules.{points_to_object, moved_fault}
use Rattle.model_checking.specs.UnaryRules.{address, followed, indirection, unary, is_modifiable, of_object, operator_fault, step_fault, step_type, step}
use Rattle.typed_rule_laws.specs.TypedMeanings.{is_typed_value, is_typed_object, known_fits, is_typed_meaning, is_typed_operand, GivesTyped}
use Rattle.typed_rule_laws.proofs.TypeForms.{unqualified_form, type_self, basic_self}
use Rattle.typed_rule_laws.proofs.Values.{value_parts, value_from, object_parts, object_from, value_form_from, unqualified_value_type, value_is_operand}
use Rattle.typed_rule_laws.proofs.Integers.{common_is_promoted}
use Rattle.typed_rule_laws.proofs.Converted.{promoted_value_is_typed, promoted_value_promoted}
use Rattle.typed_rule_laws.proofs.Outcomes.{where_wanted, where_none, neither, wanted, scalar_operand, integer_operand, pointer_operand}

abbrev pub IsTyped : List Structure → Meaning → Type 0
IsTyped structs m = is_typed_meaning structs m ≡ true

-- ---- objects

pub place_from : (structs : List Structure) (object : unit.Lvalue) → is_typed_lvalue object ≡ true → is_possible structs (object_type object) ≡ true →
    is_function (object_form object) ≡ false → is_typed_meaning structs (a_place object None) ≡ true
place_from structs object t p f = and_from (is_typed_object structs object) true (object_from structs object t p f) refl

pub place_object : (structs : List Structure) (object : unit.Lvalue) (known : Option ℤ) → is_typed_meaning structs (a_place object known) ≡ true → is_typed_object structs object ≡ true
place_object structs object known h = (and_parts (is_typed_object structs object) (known_fits known (object_form object)) h).0

pub pointee_possible : (structs : List Structure) (t : CType) → is_possible structs t ≡ true → is_possible structs (pointee (form_of_type t)) ≡ true
pointee_possible structs (typed Void q) h = h
pointee_possible structs (typed (Integer b) q) h = h
pointee_possible structs (typed (Enum b d) q) h = h
pointee_possible structs (typed (Pointer t) q) h = h
pointee_possible structs (typed (Array t n) q) h = h
pointee_possible structs (typed (Struct s) q) h = h
pointee_possible structs (typed (Function t ps v) q) h = h

pub object_pointee : (f : Form) → is_object_pointer f ≡ true → is_function (form_of_type (pointee f)) ≡ false
object_pointee Void h = cc
object_pointee (Integer b) h = cc
object_pointee (Enum b d) h = cc
object_pointee (Pointer t) h = not-true (is_function (form_of_type t)) h
object_pointee (Array t n) h = cc
object_pointee (Struct s) h = cc
object_pointee (Function t ps v) h = cc

pub object_pointer_pointer : (f : Form) → is_object_pointer f ≡ true → is_pointer f ≡ true
object_pointer_pointer Void h = cc
object_pointer_pointer (Integer b) h = cc
object_pointer_pointer (Enum b d) h = cc
object_pointer_pointer (Pointer t) h = refl
object_pointer_pointer (Array t n) h = cc
object_pointer_pointer (Struct s) h = cc
object_pointer_pointer (Function t ps v) h = cc

pub function_pointer_pointer : (f : Form) → is_function_pointer f ≡ true → is_pointer f ≡ true
function_pointer_pointer Void h = cc
function_pointer_pointer (Integer b) h = cc
function_pointer_pointer (Enum b d) h = cc
function_pointer_pointer (Pointer t) h = refl
function_pointer_pointer (Array t n) h = cc
function_pointer_pointer (Struct s) h = cc
function_pointer_pointer (Function t ps v) h = cc

-- ---- `&`

pub address_is_typed : (structs : List Structure) (mark : Mark) (first : Place) (m : Meaning) → is_typed_meaning structs m ≡ true → GivesTyped structs (address mark first m)
address_is_typed structs mark first (a_place object known) h =
    let parts = object_parts structs object (place_object structs object known h) in
    where_wanted (IsTyped structs) (not (is_held object) && not (is_void (object_type object))) first 11 (Ok (a_value (unit.Address Written object mark)))
    (λ w. rw (parts.typed_by, parts.not_function, parts.possible) refl)
address_is_typed structs mark first (a_value value) h = tt
address_is_typed structs mark first (a_function id type by_name at) h =
    let parts = and_parts (is_possible structs type) (is_function (form_of_type type)) h in
    rw (parts.0, parts.1) refl
address_is_typed structs mark first (a_target pointer) h = (and_parts (is_typed_value structs pointer) (is_function_pointer (form_of pointer)) h).0

-- ---- `*`

pub deref_is_typed : (structs : List Structure) (value : unit.Expr) (mark : Mark) → is_typed_operand structs value ≡ true → is_object_pointer (form_of value) ≡ true →
    is_typed_meaning structs (a_place (unit.Deref value mark) None) ≡ true
deref_is_typed structs value mark h p =
    let parts = value_parts structs value (pointer_operand structs value h (object_pointer_pointer (form_of value) p)) in
    place_from structs (unit.Deref value mark) (and_from (is_typed value) (is_object_pointer (form_of value)) parts.typed_by p)
    (pointee_possible structs (type_of value) parts.possible) (object_pointee (form_of value) p)

followed_by : (structs : List Structure) (mark : Mark) (value : unit.Expr) (first : Place) (b : Bool) → is_function_pointer (form_of value) ≡ b →
    is_typed_operand structs value ≡ true →
    GivesTyped structs (if b then Ok (a_target value) else unless (wants (points_to_object structs (form_of value)) first 12) (Ok (a_place (unit.Deref value mark) None)))
followed_by structs mark value first true e h =
    and_from (is_typed_value structs value) (is_function_pointer (form_of value))
    (pointer_operand structs value h (function_pointer_pointer (form_of value) e)) e
followed_by structs mark value first false e h =
    where_wanted (IsTyped structs) (points_to_object structs (form_of value)) first 12 (Ok (a_place (unit.Deref value mark) None))
    (λ w. deref_is_typed structs value mark h (and_parts (is_object_pointer (form_of value)) (can_move structs (form_of value)) w).0)

followed_is_typed : (structs : List Structure) (mark : Mark) (o : Operand) → is_typed_operand structs o.value ≡ true → GivesTyped structs (followed structs mark o)
followed_is_typed structs mark o h = followed_by structs mark o.value o.first (is_function_pointer (form_of o.value)) refl h

pub indirection_is_typed : (structs : List Structure) (mark : Mark) (first : Place) (m : Meaning) → is_typed_meaning structs m ≡ true →
    GivesTyped structs (indirection structs mark first m)
indirection_is_typed structs mark first (a_place object known) h =
    followed_is_typed structs mark (operand first (a_place object known)) (value_is_operand structs (a_place object known) h)
indirection_is_typed structs mark first (a_value value) h = followed_is_typed structs mark (operand first (a_value value)) (value_is_operand structs (a_value value) h)
indirection_is_typed structs mark first (a_function id type by_name at) h = h
indirection_is_typed structs mark first (a_target pointer) h =
    followed_is_typed structs mark (operand first (a_target pointer)) (value_is_operand structs (a_target pointer) h)

-- ---- `+`, `-`, `~` and `!`

pub unary_is_typed : (structs : List Structure) (o : PrefixOp) (mark : Mark) (first : Place) (m : Meaning) → is_typed_meaning structs m ≡ true →
    GivesTyped structs (unary structs o mark first m)
unary_is_typed structs prefix.Address mark first m h = address_is_typed structs mark first m h
unary_is_typed structs prefix.Indirection mark first m h = indirection_is_typed structs mark first m h
unary_is_typed structs prefix.Plus mark first m h =
    where_wanted (IsTyped structs) (is_integer (form_of (value_of m))) mark.at 9 (Ok (a_value (promoted_value (value_of m))))
    (λ w. promoted_value_is_typed structs (value_of m) (integer_operand structs (value_of m) (value_is_operand structs m h) w) w)
unary_is_typed structs prefix.Minus mark first m h =
    where_wanted (IsTyped structs) (is_integer (form_of (value_of m))) mark.at 9 (Ok (a_value (unit.Unary op.Minus (promoted_value (value_of m)) mark)))
    (λ w. let parts = value_parts structs (promoted_value (value_of m))
    (promoted_value_is_typed structs (value_of m) (integer_operand structs (value_of m) (value_is_operand structs m h) w) w) in
    rw (parts.typed_by, promoted_value_promoted (value_of m), parts.possible, parts.of_value) refl)
unary_is_typed structs prefix.Complement mark first m h =
    where_wanted (IsTyped structs) (is_integer (form_of (value_of m))) mark.at 9 (Ok (a_value (unit.Unary op.Complement (promoted_value (value_of m)) mark)))
    (λ w. let parts = value_parts structs (promoted_value (value_of m))
    (promoted_value_is_typed structs (value_of m) (integer_operand structs (value_of m) (value_is_operand structs m h) w) w) in
    rw (parts.typed_by, promoted_value_promoted (value_of m), parts.possible, parts.of_value) refl)
unary_is_typed structs prefix.Not mark first m h =
    where_wanted (IsTyped structs) (is_scalar (form_of (value_of m))) mark.at 9 (Ok (a_value (unit.Unary op.Not (value_of m) mark)))
    (λ w. rw ((value_parts structs (value_of m) (scalar_operand structs (value_of m) (value_is_operand structs m h) w)).typed_by, w) refl)

-- ---- what may be changed

pub record Modifiable (structs : List Structure) (object : unit.Lvalue) : Type 0 where
  pub not_array : is_array (object_form object) ≡ false
  pub complete : is_complete structs (object_type object) ≡ true
  pub not_const : is_const_somewhere structs (object_type object) ≡ false

pub modifiable : (structs : List Structure) (object : unit.Lvalue) (known : Option ℤ) → is_modifiable structs (a_place object known) ≡ true → Modifiable structs object
modifiable structs object known h =
    let parts = and_parts (not (is_array (object_form object)) && is_complete structs (object_type object)) (not (is_const_somewhere structs (object_type object))) h in
    let front = and_parts (not (is_array (object_form object))) (is_complete structs (object_type object)) parts.0 in
    record {
      not_array = not-true (is_array (object_form object)) front.0;
      complete = front.1;
      not_const = not-true (is_const_somewhere structs (object_type object)) parts.1;
    }

pub const_of : (structs : List Structure) (t : CType) → is_const_somewhere structs t ≡ false → (quals_of_type t).has_const ≡ false
const_of structs (typed f q) h = (or_parts _ _ h).0

pub complete_storable : (structs : List Structure) (t : CType) → is_complete structs t ≡ true → is_array (form_of_type t) ≡ false → is_storable (form_of_type t) ≡ true
complete_storable structs (typed Void q) c a = cc
complete_storable structs (typed (Integer b) q) c a = refl
complete_storable structs (typed (Enum b d) q) c a = refl
complete_storable structs (typed (Pointer t) q) c a = refl
complete_storable structs (typed (Array t n) q) c a = cc
complete_storable structs (typed (Struct s) q) c a = refl
complete_storable structs (typed (Function t ps v) q) c a = cc

pub assigned_to : (structs : List Structure) (object : unit.Lvalue) → Modifiable structs object → may_be_assigned (object_type object) ≡ true
assigned_to structs object m =
    rw (complete_storable structs (object_type object) m.complete m.not_array, const_of structs (object_type object) m.not_const) refl

-- the value of an object that is no array has its form
unknown_form : (object : unit.Lvalue) (mark : Mark) (b : Bool) → b ≡ false → is_array (object_form object) ≡ false →
    form_of (if b then unit.Address Implied object mark else unit.Load object mark) ≡ object_form object
unknown_form object mark true e a = cc
unknown_form object mark false e a = unqualified_form (object_type object) a

known_form : (t : CType) (v : ℤ) (mark : Mark) (b : Bool) → is_array (form_of_type t) ≡ false →
    form_of (if b then unit.Convert Implied (unqualified t) (constant v t mark) mark else constant v t mark) ≡ form_of_type t
known_form t v mark true a = unqualified_form t a
known_form t v mark false a = unqualified_form t a

pub object_value_form : (object : unit.Lvalue) (known : Option ℤ) → is_array (object_form object) ≡ false → form_of (object_value object known) ≡ object_form object
object_value_form object None a = unknown_form object (lvalue_mark object) (is_array (object_form object)) a a
object_value_form object (Some v) a = known_form (object_type object) v (lvalue_mark object) (is_plain_void_pointer (object_form object)) a

-- ---- `++` and `--`

moved_by : (structs : List Structure) (f : Form) (first : Place) (b : Bool) → is_pointer f ≡ b →
    (if b then wants (points_to_object structs f) first 12 else None) ≡ None → is_pointer f ≡ true → points_to_object structs f ≡ true
moved_by structs f first true e h p = wanted (points_to_object structs f) first 12 h
moved_by structs f first false e h p = cc

pub moved : (structs : List Structure) (o : Operand) → moved_fault structs o ≡ None → is_pointer (form_of o.value) ≡ true → points_to_object structs (form_of o.value) ≡ true
moved structs o h p = moved_by structs (form_of o.value) o.first (is_pointer (form_of o.value)) refl h p

pub moved_object : (structs : List Structure) (o : Operand) → moved_fault structs o ≡ None → is_pointer (form_of o.value) ≡ true → is_object_pointer (form_of o.value) ≡ true
moved_object structs o h p = (and_parts (is_object_pointer (form_of o.value)) (can_move structs (form_of o.value)) (moved structs o h p)).0

step_type_fits : (structs : List Structure) (t : CType) → is_scalar (form_of_type t) ≡ true → (is_pointer (form_of_type t) ≡ true → is_object_pointer (form_of_type t) ≡ true) →
    step_fits (form_of_type (if is_pointer (form_of_type t) then unqualified t else integer_type (common (basic_of (form_of_type t)) basic.Int))) (form_of_type t) ≡ true
step_type_fits structs (typed Void q) s p = cc
step_type_fits structs (typed (Integer b) q) s p = rw (common_is_promoted b basic.Int, basic_self (common b basic.Int)) refl
step_type_fits structs (typed (Enum b d) q) s p = rw (common_is_promoted b basic.Int, basic_self (common b basic.Int)) refl
step_type_fits structs (typed (Pointer t) q) s p = rw (p refl, type_self t) refl
step_type_fits structs (typed (Array t n) q) s p = cc
step_type_fits structs (typed (Struct x) q) s p = cc
step_type_fits structs (typed (Function t ps v) q) s p = cc

pub record StepParts (structs : List Structure) (at first : Place) (m : Meaning) : Type 0 where
  pub operator : operator_fault structs at m ≡ None
  pub moves : moved_fault structs (operand first m) ≡ None

pub step_parts : (structs : List Structure) (side : StepSide) (at first : Place) (m : Meaning) → step_fault structs side at first m ≡ None → StepParts structs at first m
step_parts structs Prefix at first m h =
    let parts = neither (operator_fault structs at m) (moved_fault structs (operand first m)) h in
    record { operator = parts.first; moves = parts.second }
step_parts structs Postfix at first m h =
    let parts = neither (moved_fault structs (operand first m)) (operator_fault structs at m) h in
    record { operator = parts.second; moves = parts.first }

stepped : (structs : List Structure) (o : StepOp) (side : StepSide) (mark : Mark) (first : Place) (object : unit.Lvalue) (known : Option ℤ) →
    is_typed_object structs object ≡ true → StepParts structs mark.at first (a_place object known) →
    is_typed_value structs (unit.Step o side (step_type object) object mark) ≡ true
stepped structs o side mark first object known h parts =
    let operator = neither (wants (is_scalar (form_of (object_value object known))) mark.at 9) (wants (is_modifiable structs (a_place object known)) mark.at 10) parts.operator in
    let changed = modifiable structs object known (wanted (is_modifiable structs (a_place object known)) mark.at 10 operator.second) in
    let same = object_value_form object known changed.not_array in
    let scalar = ap is_scalar (sym same) ∙ wanted (is_scalar (form_of (object_value object known))) mark.at 9 operator.first in
    let known_parts = object_parts structs object h in
    value_from structs (unit.Step o side (step_type object) object mark)
    (rw (known_parts.typed_by, assigned_to structs object changed)
    (step_type_fits structs (object_type object) scalar
    (λ p. ap is_object_pointer (sym same) ∙ moved_object structs (operand first (a_place object known)) parts.moves (ap is_pointer same ∙ p))))
    (unqualified_value_type structs (object_type object) known_parts.possible (value_form_from (object_form object) changed.not_array known_parts.not_function))

pub step_is_typed : (structs : List Structure) (o : StepOp) (side : StepSide) (mark : Mark) (first : Place) (m : Meaning) → is_typed_meaning structs m ≡ true →
    GivesTyped structs (step structs o side mark first m)
step_is_typed structs o side mark first (a_place object known) h =
    where_none (IsTyped structs) (step_fault structs side mark.at first (a_place object known)) (Ok (a_value (unit.Step o side (step_type object) object mark)))
    (λ n. stepped structs o side mark first object known (place_object structs object known h) (step_parts structs side mark.at first (a_place object known) n))
step_is_typed structs o side mark first (a_value value) h =
    where_none (IsTyped structs) (step_fault structs side mark.at first (a_value value)) (of_object mark.at (a_value value) (λ object. unit.Step o side (step_type object) object mark)) (λ n. tt)
step_is_typed structs o side mark first (a_function id type by_name at) h =
    where_none (IsTyped structs) (step_fault structs side mark.at first (a_function id type by_name at))
    (of_object mark.at (a_function id type by_name at) (λ object. unit.Step o side (step_type object) object mark)) (λ n. tt)
step_is_typed structs o side mark first (a_target pointer) h =
    where_none (IsTyped structs) (step_fault structs side mark.at first (a_target pointer))
    (of_object mark.at (a_target pointer) (λ object. unit.Step o side (step_type object) object mark)) (λ n. tt)
