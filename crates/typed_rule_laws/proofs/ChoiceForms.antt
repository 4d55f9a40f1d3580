-- What the rules of `?:` make is typed.
use Rattle.std.proofs.Common.{◌≡◌, ◌∙◌, ap, sym, refl, Bool, true, false, ◌&&◌, ◌||◌, not, if◌then◌else◌, List, Result, Ok, inl, inr}
use Rattle.std.proofs.lemmas.Bool.{and_parts, or_cases, or_left, both_ways}
use Rattle.cake_base.specs.declared.rules.Fault.{Fault}
use Rattle.model_types.specs.declared.marks.Mark.{Mark}
use Rattle.model_types.specs.declared.marks.Origin.TheVariants.{Implied}
use Rattle.model_types.specs.declared.types.Quals.{Quals}
use Rattle.model_types.specs.Types.{CType, typed, Form, Void, Integer, Enum, Pointer, Array, Struct, Function, form_of_type}
use Rattle.model_types.specs.Structures.{Structure}
use Rattle.model_types.specs.Conversions.{common}
use Rattle.model_types.specs.Compatible.{same_quals, lengths_agree, compatible, compatible_forms}
use Rattle.model_core.specs.CoreTypes.{type_of, unqualified, plain, pointer_to, pointee, is_pointer, is_void}
use Rattle.model_core.specs.SameTypes.{is_integer, is_null_constant, is_void_pointer, same_form, same_value_type}
use Rattle.model_core.specs.TypedParts.{is_array, is_function, is_struct, is_scalar, is_object_pointer, alike_pointers, comparable, converts, implied_fits}
use Rattle.model_core.specs.TypedExpr.{form_of}
use Rattle.model_core.specs.PossibleTypes.{is_possible}
use Rattle.model_core.specs.SourceMarks.{expr_mark}
use Rattle.model_core.specs.Core as unit
use Rattle.model_scopes.specs.CompositeTypes.{composite, composite_form, known_length}
use Rattle.model_checking.specs.State.{unless}
use Rattle.model_checking.specs.Meanings.{Meaning, a_value, Operand}
use Rattle.model_checking.specs.Faults.{wants, or_fault}
use Rattle.model_checking.specs.Qualifiers.{quals_behind, joined_quals, qualified_by}
use Rattle.model_checking.specs.MadeCore.{used_fault, converted, common_type, basic_in, are_integers}
use Rattle.model_checking.specs.ChoiceRules.{condition_fault, branch_fault, pointers_agree, are_void_or_struct, branches_agree, joined_pointer, pointers_type, branch_type, choice}
use Rattle.typed_rule_laws.specs.TypedMeanings.{is_typed_value, is_typed_operand, GivesTyped}
use Rattle.typed_rule_laws.proofs.TypeForms.{form_self, unqualified_possible}
use Rattle.typed_rule_laws.proofs.SameForms.{same_form_is}
use Rattle.typed_rule_laws.proofs.Values.{value_parts, value_from, value_type_from}
use Rattle.typed_rule_laws.proofs.Converted.{converted_is_typed, converted_has_type, to_integer_is_typed}
use Rattle.typed_rule_laws.proofs.Outcomes.{where_wanted, where_none, neither, wanted, scalar_operand}
use Rattle.typed_rule_laws.proofs.UnaryForms.{IsTyped, pointee_possible}
use Rattle.typed_rule_laws.proofs.ComparisonForms.{from_null_is_typed, to_void, implied_void, alike_void, void_alike, void_object, objects_of}
use Rattle.typed_rule_laws.proofs.CastForms.{read_operand}
use Rattle.typed_rule_laws.proofs.CompositeForms.{with_composite, composite_with, composite_possible}

-- a branch in the common type
pub record Branch (structs : List Structure) (type : CType) (e : unit.Expr) : Type 0 where
  pub whole : is_typed_value structs (converted type e) ≡ true
  pub same : same_value_type type (type_of (converted type e)) ≡ true

-- ---- a value of the type already stays as it is

kept_by : (structs : List Structure) (type : CType) (e : unit.Expr) (mark : Mark) (b : Bool) → b ≡ true → same_value_type type (type_of e) ≡ true → is_typed_value structs e ≡ true →
    (is_typed_value structs (if b then e else unit.Convert Implied (unqualified type) e mark) ≡ true)
    × (same_value_type type (type_of (if b then e else unit.Convert Implied (unqualified type) e mark)) ≡ true)
kept_by structs type e mark true b s h = (h, s)
kept_by structs type e mark false b s h = cc

kept : (structs : List Structure) (type : CType) (e : unit.Expr) → same_value_type type (type_of e) ≡ true → is_typed_value structs e ≡ true → Branch structs type e
kept structs type e s h =
    let parts = kept_by structs type e (expr_mark e) (same_value_type type (type_of e)) s s h in
    record { whole = parts.0; same = parts.1 }

-- ---- integers

integer_branch : (structs : List Structure) (a b e : unit.Expr) → is_typed_value structs e ≡ true → is_integer (form_of e) ≡ true → Branch structs (common_type a b) e
integer_branch structs a b e h i =
    record { whole = to_integer_is_typed structs (common (basic_in a) (basic_in b)) e h i; same = converted_has_type (common_type a b) e refl }

-- ---- void, or a structure twice

void_twice : (t u : CType) → is_void t ≡ true → is_void u ≡ true → same_value_type t u ≡ true
void_twice (typed Void p) (typed Void q) h k = refl
void_twice t u h k = cc

void_or_struct : (a b : unit.Expr) → are_void_or_struct a b ≡ true → same_value_type (type_of a) (type_of b) ≡ true
void_or_struct a b h = elim (or_cases (is_void (type_of a) && is_void (type_of b)) (is_struct (form_of a) && same_form (form_of a) (form_of b)) h) [
  | inl void ↦
      let parts = and_parts (is_void (type_of a)) (is_void (type_of b)) void in
      void_twice (type_of a) (type_of b) parts.0 parts.1
  | inr structure ↦ (and_parts (is_struct (form_of a)) (same_form (form_of a) (form_of b)) structure).1
]

-- ---- pointers: a null pointer constant takes the type of the other branch

pointer_not_array : (f : Form) → is_pointer f ≡ true → is_array f ≡ false
pointer_not_array Void p = cc
pointer_not_array (Integer b) p = cc
pointer_not_array (Enum b d) p = cc
pointer_not_array (Pointer t) p = refl
pointer_not_array (Array t n) p = cc
pointer_not_array (Struct s) p = cc
pointer_not_array (Function t ps v) p = cc

null_branch : (structs : List Structure) (type : CType) (e : unit.Expr) → is_typed_value structs e ≡ true → is_null_constant e ≡ true → is_possible structs type ≡ true →
    is_pointer (form_of_type type) ≡ true → Branch structs type e
null_branch structs type e h n possible p =
    record {
      whole = from_null_is_typed structs type e h n possible p;
      same = converted_has_type type e (pointer_not_array (form_of_type type) p);
    }

-- ---- a type with more qualifiers

unqualified_by : (q : Quals) (t : CType) → unqualified (qualified_by q t) ≡ unqualified t
unqualified_by q (typed Void p) = refl
unqualified_by q (typed (Integer b) p) = refl
unqualified_by q (typed (Enum b d) p) = refl
unqualified_by q (typed (Pointer t) p) = refl
unqualified_by q (typed (Array t n) p) = ap (λ t. plain (Array t n)) (unqualified_by q t)
unqualified_by q (typed (Struct s) p) = refl
unqualified_by q (typed (Function t ps v) p) = refl

qualified_possible : (structs : List Structure) (q : Quals) (t : CType) → is_possible structs (qualified_by q t) ≡ is_possible structs t
qualified_possible structs q t =
    sym (unqualified_possible structs (qualified_by q t)) ∙ (ap (is_possible structs) (unqualified_by q t) ∙ unqualified_possible structs t)

qualified_function : (q : Quals) (t : CType) → is_function (form_of_type (qualified_by q t)) ≡ is_function (form_of_type t)
qualified_function q (typed Void p) = refl
qualified_function q (typed (Integer b) p) = refl
qualified_function q (typed (Enum b d) p) = refl
qualified_function q (typed (Pointer t) p) = refl
qualified_function q (typed (Array t n) p) = refl
qualified_function q (typed (Struct s) p) = refl
qualified_function q (typed (Function t ps v) p) = refl

-- ---- two pointers: to void, where one of them is

void_joined : (structs : List Structure) (q : Quals) (e : unit.Expr) → is_typed_value structs e ≡ true → is_object_pointer (form_of e) ≡ true →
    Branch structs (pointer_to (qualified_by q (plain Void))) e
void_joined structs q e h p =
    let type = pointer_to (qualified_by q (plain Void)) in
    record {
      whole = converted_is_typed structs type e h refl (to_void (is_null_constant e) (form_of e) (form_of_type type) refl p)
          (implied_void (is_null_constant e) (form_of e) (form_of_type type) refl p);
      same = converted_has_type type e refl;
    }

void_objects : (f g : Form) → comparable f g ≡ true → is_void_pointer f || is_void_pointer g ≡ true → (is_object_pointer f ≡ true) × (is_object_pointer g ≡ true)
void_objects f g h v = elim (or_cases (alike_pointers f g) (is_object_pointer f && is_object_pointer g && (is_void_pointer f || is_void_pointer g)) h) [
  | inl alike ↦ elim (or_cases (is_void_pointer f) (is_void_pointer g) v) [
    | inl first ↦ (void_object f first, void_alike f g first alike)
    | inr second ↦ (alike_void g f second alike, void_object g second)
  ]
  | inr objects ↦ objects_of f g (is_void_pointer f || is_void_pointer g) objects
]

-- ---- two pointers: to the composite type of what they point to

alike_only : (f g : Form) → comparable f g ≡ true → is_void_pointer f || is_void_pointer g ≡ false → alike_pointers f g ≡ true
alike_only f g h v = elim (or_cases (alike_pointers f g) (is_object_pointer f && is_object_pointer g && (is_void_pointer f || is_void_pointer g)) h) [
  | inl alike ↦ alike
  | inr objects ↦ absurd (both_ways (is_void_pointer f || is_void_pointer g) v (and_parts (is_object_pointer f && is_object_pointer g) (is_void_pointer f || is_void_pointer g) objects).1)
]

-- the composite type of unqualified types is unqualified
unqualified_composite : (t u : CType) → compatible (unqualified t) (unqualified u) ≡ true →
    unqualified (composite (unqualified t) (unqualified u)) ≡ composite (unqualified t) (unqualified u)
unqualified_composite (typed Void p) (typed Void q) h = refl
unqualified_composite (typed (Integer x) p) (typed (Integer y) q) h = refl
unqualified_composite (typed (Integer x) p) (typed (Enum y oy) q) h = refl
unqualified_composite (typed (Enum x ox) p) (typed (Integer y) q) h = refl
unqualified_composite (typed (Enum x ox) p) (typed (Enum y oy) q) h = refl
unqualified_composite (typed (Pointer x) p) (typed (Pointer y) q) h = refl
unqualified_composite (typed (Array x nx) p) (typed (Array y ny) q) h =
    ap (λ t. plain (Array t (known_length nx ny))) (unqualified_composite x y (and_parts (compatible (unqualified x) (unqualified y)) (lengths_agree nx ny) h).0)
unqualified_composite (typed (Struct x) p) (typed (Struct y) q) h = refl
unqualified_composite (typed (Function x psx wx) p) (typed (Function y psy wy) q) h = refl
unqualified_composite t u h = cc

composite_function_form : (f g : Form) → compatible_forms f g ≡ true → is_function (composite_form f g) ≡ is_function f
composite_function_form Void Void h = refl
composite_function_form (Integer x) (Integer y) h = refl
composite_function_form (Integer x) (Enum y oy) h = refl
composite_function_form (Enum x ox) (Integer y) h = refl
composite_function_form (Enum x ox) (Enum y oy) h = refl
composite_function_form (Pointer x) (Pointer y) h = refl
composite_function_form (Array x nx) (Array y ny) h = refl
composite_function_form (Struct x) (Struct y) h = refl
composite_function_form (Function x psx wx) (Function y psy wy) h = refl
composite_function_form f g h = cc

compatible_function_form : (f g : Form) → compatible_forms f g ≡ true → is_function f ≡ is_function g
compatible_function_form Void Void h = refl
compatible_function_form (Integer x) (Integer y) h = refl
compatible_function_form (Integer x) (Enum y oy) h = refl
compatible_function_form (Enum x ox) (Integer y) h = refl
compatible_function_form (Enum x ox) (Enum y oy) h = refl
compatible_function_form (Pointer x) (Pointer y) h = refl
compatible_function_form (Array x nx) (Array y ny) h = refl
compatible_function_form (Struct x) (Struct y) h = refl
compatible_function_form (Function x psx wx) (Function y psy wy) h = refl
compatible_function_form f g h = cc

composite_function : (t u : CType) → compatible t u ≡ true → is_function (form_of_type (composite t u)) ≡ is_function (form_of_type t)
composite_function (typed f p) (typed g q) h = composite_function_form f g (and_parts (same_quals p q) (compatible_forms f g) h).1

compatible_function : (t u : CType) → compatible t u ≡ true → is_function (form_of_type t) ≡ is_function (form_of_type u)
compatible_function (typed f p) (typed g q) h = compatible_function_form f g (and_parts (same_quals p q) (compatible_forms f g) h).1

to_alike_by : (from to : Bool) → to ≡ from → not from && not to || from && to ≡ true
to_alike_by true true e = refl
to_alike_by false false e = refl
to_alike_by true false e = cc
to_alike_by false true e = cc

-- a pointer becomes one to a type that is compatible with what it points to
to_alike : (null : Bool) (t u : CType) → is_function (form_of_type u) ≡ is_function (form_of_type t) → converts null (Pointer t) (Pointer u) ≡ true
to_alike true t u s = refl
to_alike false t u s = to_alike_by (is_function (form_of_type t)) (is_function (form_of_type u)) s

implied_alike : (null : Bool) (t u : CType) → compatible (unqualified t) (unqualified u) ≡ true → implied_fits null (Pointer t) (Pointer u) ≡ true
implied_alike true t u c = refl
implied_alike false t u c = or_left (compatible (unqualified t) (unqualified u))
    (is_object_pointer (Pointer t) && is_object_pointer (Pointer u) && (is_void_pointer (Pointer t) || is_void_pointer (Pointer u))) c

unqualified_function : (t : CType) → is_function (form_of_type (unqualified t)) ≡ is_function (form_of_type t)
unqualified_function (typed Void p) = refl
unqualified_function (typed (Integer b) p) = refl
unqualified_function (typed (Enum b d) p) = refl
unqualified_function (typed (Pointer t) p) = refl
unqualified_function (typed (Array t n) p) = refl
unqualified_function (typed (Struct s) p) = refl
unqualified_function (typed (Function t ps v) p) = refl

alike_joined : (structs : List Structure) (q : Quals) (e : unit.Expr) (f : Form) (t joined : CType) → form_of e ≡ f → f ≡ Pointer t → is_typed_value structs e ≡ true →
    is_possible structs joined ≡ true → is_function (form_of_type joined) ≡ is_function (form_of_type t) → compatible (unqualified t) joined ≡ true → unqualified joined ≡ joined →
    Branch structs (pointer_to (qualified_by q joined)) e
alike_joined structs q e f t joined is points h possible function same bare =
    let type = pointer_to (qualified_by q joined) in
    let from = is ∙ points in
    let agrees : compatible (unqualified t) (unqualified (qualified_by q joined)) ≡ true =
    ap (compatible (unqualified t)) (unqualified_by q joined ∙ bare) ∙ same in
    record {
      whole = converted_is_typed structs type e h (qualified_possible structs q joined ∙ possible)
          (ap (λ f. converts (is_null_constant e) f (form_of_type type)) from ∙ to_alike (is_null_constant e) t (qualified_by q joined) (qualified_function q joined ∙ function))
          (ap (λ f. implied_fits (is_null_constant e) f (form_of_type type)) from ∙ implied_alike (is_null_constant e) t (qualified_by q joined) agrees);
      same = converted_has_type type e refl;
    }

pub record Branches (structs : List Structure) (type : CType) (a b : unit.Expr) : Type 0 where
  pub first : Branch structs type a
  pub second : Branch structs type b

both_alike : (structs : List Structure) (q : Quals) (a b : unit.Expr) (f g : Form) → form_of a ≡ f → form_of b ≡ g → is_typed_value structs a ≡ true → is_typed_value structs b ≡ true →
    is_possible structs (pointee f) ≡ true → is_possible structs (pointee g) ≡ true → alike_pointers f g ≡ true →
    Branches structs (pointer_to (qualified_by q (composite (unqualified (pointee f)) (unqualified (pointee g))))) a b
both_alike structs q a b (Pointer t) (Pointer u) ea eb ha hb pt pu alike =
    let joined = composite (unqualified t) (unqualified u) in
    let possible = composite_possible structs (unqualified t) (unqualified u) alike (unqualified_possible structs t ∙ pt) (unqualified_possible structs u ∙ pu) in
    let bare = unqualified_composite t u alike in
    let left = composite_function (unqualified t) (unqualified u) alike ∙ unqualified_function t in
    let right = compatible_function (unqualified t) (unqualified u) alike ∙ unqualified_function u in
    record {
      first = alike_joined structs q a (Pointer t) t joined ea refl ha possible left (with_composite (unqualified t) (unqualified u) alike) bare;
      second = alike_joined structs q b (Pointer u) u joined eb refl hb possible (composite_function (unqualified t) (unqualified u) alike ∙ right)
          (composite_with (unqualified t) (unqualified u) alike) bare;
    }
both_alike structs q a b f g ea eb ha hb pt pu alike = absurd (both_ways false refl alike)

joined_by : (structs : List Structure) (q : Quals) (a b : unit.Expr) (void : Bool) → is_void_pointer (form_of a) || is_void_pointer (form_of b) ≡ void →
    is_typed_value structs a ≡ true → is_typed_value structs b ≡ true → comparable (form_of a) (form_of b) ≡ true →
    Branches structs (pointer_to (qualified_by q (if void then plain Void else composite (unqualified (pointee (form_of a))) (unqualified (pointee (form_of b)))))) a b
joined_by structs q a b true v ha hb h =
    let objects = void_objects (form_of a) (form_of b) h v in
    record { first = void_joined structs q a ha objects.0; second = void_joined structs q b hb objects.1 }
joined_by structs q a b false v ha hb h =
    both_alike structs q a b (form_of a) (form_of b) refl refl ha hb
    (pointee_possible structs (type_of a) (value_parts structs a ha).possible) (pointee_possible structs (type_of b) (value_parts structs b hb).possible)
    (alike_only (form_of a) (form_of b) h v)

-- ---- which of these the type of two pointers is

agreeing : (pa pb na nb c : Bool) → na && pb ≡ false → nb && pa ≡ false → (pa || pb) && (pa || na) && (pb || nb) && (na || nb || c) ≡ true → c ≡ true
agreeing true true false false c x y h = h
agreeing true true true nb c x y h = cc
agreeing true true false true c x y h = cc
agreeing true false na true c x y h = cc
agreeing true false na false c x y h = cc
agreeing false true true nb c x y h = cc
agreeing false true false nb c x y h = cc
agreeing false false na nb c x y h = cc

pointers_by : (structs : List Structure) (a b : unit.Expr) (first second : Bool) → is_null_constant a && is_pointer (form_of b) ≡ first →
    is_null_constant b && is_pointer (form_of a) ≡ second → is_typed_value structs a ≡ true → is_typed_value structs b ≡ true → pointers_agree a b ≡ true →
    Branches structs (if first then type_of b else if second then type_of a else joined_pointer (form_of a) (form_of b)) a b
pointers_by structs a b true second x y ha hb h =
    let parts = and_parts (is_null_constant a) (is_pointer (form_of b)) x in
    record {
      first = null_branch structs (type_of b) a ha parts.0 (value_parts structs b hb).possible parts.1;
      second = kept structs (type_of b) b (form_self (form_of b)) hb;
    }
pointers_by structs a b false true x y ha hb h =
    let parts = and_parts (is_null_constant b) (is_pointer (form_of a)) y in
    record {
      first = kept structs (type_of a) a (form_self (form_of a)) ha;
      second = null_branch structs (type_of a) b hb parts.0 (value_parts structs a ha).possible parts.1;
    }
pointers_by structs a b false false x y ha hb h =
    joined_by structs (joined_quals (quals_behind (form_of a)) (quals_behind (form_of b))) a b (is_void_pointer (form_of a) || is_void_pointer (form_of b)) refl ha hb
    (agreeing (is_pointer (form_of a)) (is_pointer (form_of b)) (is_null_constant a) (is_null_constant b) (comparable (form_of a) (form_of b)) x y h)

-- ---- the branches in their common type

neither_by : (void : Bool) → void ≡ false → (integers pointers : Bool) → integers ≡ false → integers || pointers || void ≡ true → pointers ≡ true
neither_by void v false true i h = refl
neither_by void v true pointers i h = cc
neither_by false v false false i h = cc
neither_by true v false false i h = cc

pub branches_by : (structs : List Structure) (a b : unit.Expr) (integers void : Bool) → are_integers (form_of a) (form_of b) ≡ integers → are_void_or_struct a b ≡ void →
    is_typed_value structs a ≡ true → is_typed_value structs b ≡ true → branches_agree a b ≡ true →
    Branches structs (if integers then common_type a b else if void then type_of a else pointers_type a b) a b
branches_by structs a b true void i v ha hb h =
    let parts = and_parts (is_integer (form_of a)) (is_integer (form_of b)) i in
    record { first = integer_branch structs a b a ha parts.0; second = integer_branch structs a b b hb parts.1 }
branches_by structs a b false true i v ha hb h =
    record { first = kept structs (type_of a) a (form_self (form_of a)) ha; second = kept structs (type_of a) b (void_or_struct a b v) hb }
branches_by structs a b false false i v ha hb h =
    pointers_by structs a b (is_null_constant a && is_pointer (form_of b)) (is_null_constant b && is_pointer (form_of a)) refl refl ha hb
    (neither_by (are_void_or_struct a b) v (are_integers (form_of a) (form_of b)) (pointers_agree a b) i h)

same_both : (type t u : CType) → same_value_type type t ≡ true → same_value_type type u ≡ true → same_value_type t u ≡ true
same_both type t u h k = ap (λ f. same_form f (form_of_type u)) (sym (same_form_is (form_of_type type) (form_of_type t) h)) ∙ k

choice_typed : (structs : List Structure) (mark : Mark) (c a b : unit.Expr) (type : CType) → is_typed_value structs c ≡ true → is_scalar (form_of c) ≡ true →
    Branches structs type a b → is_typed_value structs (unit.Choice c (converted type a) (converted type b) mark) ≡ true
choice_typed structs mark c a b type h s branches =
    let first = value_parts structs (converted type a) branches.first.whole in
    let second = value_parts structs (converted type b) branches.second.whole in
    value_from structs (unit.Choice c (converted type a) (converted type b) mark)
    (rw (
      (value_parts structs c h).typed_by,
      first.typed_by,
      second.typed_by,
      s,
      same_both type (type_of (converted type a)) (type_of (converted type b)) branches.first.same branches.second.same,
    ) refl)
    (value_type_from structs (type_of (converted type a)) first.possible first.of_value)

pub choice_is_typed : (structs : List Structure) (mark : Mark) (c a b : Operand) → is_typed_operand structs c.value ≡ true → is_typed_operand structs a.value ≡ true →
    is_typed_operand structs b.value ≡ true → GivesTyped structs (choice structs mark c a b)
choice_is_typed structs mark c a b hc ha hb =
    let type = branch_type a.value b.value in
    let made : Result Meaning Fault = Ok (a_value (unit.Choice c.value (converted type a.value) (converted type b.value) mark)) in
    let read = or_fault (branch_fault structs a) (branch_fault structs b) in
    where_none (IsTyped structs) (condition_fault structs mark.at c) (unless (wants (branches_agree a.value b.value) mark.at 20) (unless read made)) (λ n.
    where_wanted (IsTyped structs) (branches_agree a.value b.value) mark.at 20 (unless read made) (λ w.
    where_none (IsTyped structs) read made (λ r.
    let faults = neither (branch_fault structs a) (branch_fault structs b) r in
    let condition = neither (used_fault structs c) (wants (is_scalar (form_of c.value)) mark.at 9) n in
    let scalar = wanted (is_scalar (form_of c.value)) mark.at 9 condition.second in
    choice_typed structs mark c.value a.value b.value type (scalar_operand structs c.value hc scalar) scalar
    (branches_by structs a.value b.value (are_integers (form_of a.value) (form_of b.value)) (are_void_or_struct a.value b.value) refl refl
    (read_operand structs a ha faults.first) (read_operand structs b hb faults.second) w))))
