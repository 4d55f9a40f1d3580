-- What is given to an object of a type names the first constraint that it breaks; and so do assignments and arguments.
use Rattle.std.proofs.Common.{◌≡◌, ◌∙◌, ◌≤◌, inl, inr, ap, sym, refl, ℕ, Bool, true, false, ◌&&◌, ◌||◌, not, if◌then◌else◌, List, arith}
use Rattle.std.proofs.lemmas.Bool.{both_ways}
use Rattle.cake_base.specs.declared.places.Place.{Place}
use Rattle.model_types.specs.declared.numbers.Basic.{Basic}
use Rattle.model_types.specs.declared.numbers.Basic.TheVariants as basic
use Rattle.model_types.specs.Types.{CType, Form, Void, Integer, Enum, Pointer, Array, Struct, Function, Types, no_types, more_types, form_of_type}
use Rattle.model_types.specs.Compatible.{compatible}
use Rattle.model_types.specs.Structures.{Structure}
use Rattle.model_scopes.specs.DeclarationRules.{constraint_at}
use Rattle.model_core.specs.CoreTypes.{is_pointer, unqualified}
use Rattle.model_core.specs.SameTypes.{is_integer, is_null_constant, same_form, is_void_pointer}
use Rattle.model_core.specs.TypedParts.{is_scalar, is_function, comparable, converts, implied_fits}
use Rattle.model_core.specs.TypedExpr.{form_of}
use Rattle.model_core.specs.Core as unit
use Rattle.model_checking.specs.Faults.{wants, or_fault}
use Rattle.model_checking.specs.Qualifiers.{quals_behind, loses}
use Rattle.model_checking.specs.MadeCore.{converted, used_fault}
use Rattle.model_checking.specs.Meanings.{Operand}
use Rattle.model_checking.specs.Conversion.{may_become, keeps_qualifiers, passed_fault, passed}
use Rattle.model_checking.specs.CallRules.{promoted_argument, argument}
use Rattle.model_constraints.specs.Pairs.{At, Beside, IsBefore}
use Rattle.model_constraints.specs.BrokenValues.{broken_use, may_be_given, drops_qualifier, broken_giving}
use Rattle.model_constraints.specs.BrokenCalls.{broken_argument}
use Rattle.first_broken_laws.specs.FirstNamed.{Names, Answers, Precedes}
use Rattle.first_broken_laws.proofs.PairLaws.{AllBehind, StandBehind, all_here, all_beside, stand_at, stand_beside, wanted_then, fault_alone}
use Rattle.first_broken_laws.proofs.Operands.{use_named, use_stands}
use Rattle.first_broken_laws.proofs.TypeFacts.{alike_function}

-- ---- what may be given

-- pointers that can be compared convert
comparable_converts : (t u : CType) (c : Bool) → compatible (unqualified t) (unqualified u) ≡ c →
    ((not (is_function (form_of_type t)) && not (is_function (form_of_type u)) || is_function (form_of_type t) && is_function (form_of_type u))
    && (c || not (is_function (form_of_type t)) && not (is_function (form_of_type u)) && (is_void_pointer (Pointer t) || is_void_pointer (Pointer u))))
    ≡ (c || not (is_function (form_of_type t)) && not (is_function (form_of_type u)) && (is_void_pointer (Pointer t) || is_void_pointer (Pointer u)))
comparable_converts t u true e = both_by (is_function (form_of_type t)) (is_function (form_of_type u)) (alike_function t u e)
  where
    both_by : (x y : Bool) → x ≡ y → ((not x && not y || x && y) && true) ≡ true
    both_by true true e = refl
    both_by true false e = absurd (both_ways true (sym (sym e)) refl)
    both_by false true e = absurd (both_ways true (sym e) refl)
    both_by false false e = refl
comparable_converts t u false e = object_by (is_function (form_of_type t)) (is_function (form_of_type u)) (is_void_pointer (Pointer t) || is_void_pointer (Pointer u))
  where
    object_by : (x y v : Bool) → ((not x && not y || x && y) && (not x && not y && v)) ≡ (not x && not y && v)
    object_by true true v = refl
    object_by true false v = refl
    object_by false true v = refl
    object_by false false v = refl

unconverted : (o p : Bool) → (o && false || p && false) && false ≡ false
unconverted true true = refl
unconverted true false = refl
unconverted false true = refl
unconverted false false = refl

pointer_given : (null : Bool) (from : Form) (t : CType) →
    (null || comparable from (Pointer t)) ≡ (converts null from (Pointer t) && implied_fits null from (Pointer t))
pointer_given true from t = refl
pointer_given false (Pointer u) t = sym (comparable_converts u t (compatible (unqualified u) (unqualified t)) refl)
pointer_given false from t = refl

and_true : (x : Bool) → x ≡ (x && true)
and_true true = refl
and_true false = refl

integer_given : (null : Bool) (e : unit.Expr) (b : Basic) → may_be_given (Integer b) e ≡ (converts null (form_of e) (Integer b) && true)
integer_given null e basic.Bool = and_true (is_scalar (form_of e))
integer_given null e b = and_true (is_integer (form_of e))

given_form : (e : unit.Expr) (to : Form) →
    may_be_given to e ≡ (converts (is_null_constant e) (form_of e) to && implied_fits (is_null_constant e) (form_of e) to)
given_form e Void = refl
given_form e (Integer b) = integer_given (is_null_constant e) e b
given_form e (Enum b d) = and_true (is_integer (form_of e))
given_form e (Pointer t) = pointer_given (is_null_constant e) (form_of e) t
given_form e (Array t n) = refl
given_form e (Struct s) = and_true (same_form (form_of e) (Struct s))
given_form e (Function t ps v) = refl

pub given_same : (to : CType) (e : unit.Expr) → may_be_given (form_of_type to) e ≡ may_become to e
given_same to e = given_form e (form_of_type to)

-- ---- what keeps its qualifiers

dropped_by : (m null p q l : Bool) → m ≡ true → (m && (not null && p && q && l)) ≡ not (if null then true else not (p && q && l))
dropped_by false null p q l e = absurd (both_ways false refl e)
dropped_by true true p q l e = refl
dropped_by true false true true l e = not_twice l
  where
    not_twice : (x : Bool) → x ≡ not (not x)
    not_twice true = refl
    not_twice false = refl
dropped_by true false true false l e = refl
dropped_by true false false q l e = refl

use_here : (structs : List Structure) (o : Operand) (n : ℕ) → n ≤ 21 → AllBehind (constraint_at o.first n) (broken_use structs o)
use_here structs o n le place rule h = elim h as (λ x. IsBefore (constraint_at o.first n) place rule) [
  | inl one ↦ inr (sym one.1, rw one.2 le)
  | inr one ↦ inr (sym one.1, rw one.2 (omega (arith, le)))
]

pub giving_named : (structs : List Structure) (to : CType) (o : Operand) → Names (broken_giving structs to o) (passed_fault structs o.first to o.value)
giving_named structs to o =
    let m = may_be_given (form_of_type to) o.value in
    let c = m && drops_qualifier (form_of_type to) o.value in
    let U = broken_use structs o in
    let k = keeps_qualifiers to o.value in
    wanted_then o.first 16 (not m) (may_become to o.value) (Beside (At o.first 17 c) U) (or_fault (wants k o.first 17) (used_fault structs o)) (ap not (given_same to o.value))
    (λ w. wanted_then o.first 17 c k U (used_fault structs o)
    (dropped_by m (is_null_constant o.value) (is_pointer (form_of o.value)) (is_pointer (form_of_type to))
    (loses (quals_behind (form_of o.value)) (quals_behind (form_of_type to))) (given_same to o.value ∙ w))
    (λ v. use_named structs o) (λ v. use_here structs o 17 (omega arith)))
    (λ w. all_beside (constraint_at o.first 16) (At o.first 17 c) U (all_here o.first 16 17 c (omega arith)) (use_here structs o 16 (omega arith)))

pub giving_first : (structs : List Structure) (to : CType) (o : Operand) → Answers (broken_giving structs to o) (passed structs o.first to o.value)
giving_first structs to o = fault_alone (broken_giving structs to o) (passed_fault structs o.first to o.value) (converted to o.value) (giving_named structs to o)

pub argument_first : (structs : List Structure) (parameters : Types) (o : Operand) → Answers (broken_argument structs parameters o) (argument structs parameters o)
argument_first structs no_types o = fault_alone (broken_use structs o) (used_fault structs o) (promoted_argument o.value) (use_named structs o)
argument_first structs (more_types type types) o = giving_first structs type o

-- what is given stands at its first token
pub giving_stands : (structs : List Structure) (at : Place) (to : CType) (o : Operand) → Precedes at o.first → StandBehind at (broken_giving structs to o)
giving_stands structs at to o lt =
    let m = may_be_given (form_of_type to) o.value in
    let c = m && drops_qualifier (form_of_type to) o.value in
    stand_beside at (At o.first 16 (not m)) (Beside (At o.first 17 c) (broken_use structs o)) (stand_at at o.first 16 (not m) (λ e. lt))
    (stand_beside at (At o.first 17 c) (broken_use structs o) (stand_at at o.first 17 c (λ e. lt)) (use_stands structs at o lt))
