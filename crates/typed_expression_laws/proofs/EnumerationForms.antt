-- Enumerations by their braces, and their enumerators.
use Rattle.std.proofs.Common.{◌≡◌, ◌∙◌, ap, sym, subst, refl, ℕ, ℤ, Bool, true, false, ◌&&◌, ◌||◌, not, List, Option, Some, None, is_some, if◌then◌else◌}
use Rattle.std.proofs.lemmas.Bool.{and_parts, and_from, not-false}
use Rattle.cake_base.specs.declared.places.Place.{Place}
use Rattle.model_types.specs.declared.numbers.Basic.{Basic}
use Rattle.model_types.specs.Operations.{fits}
use Rattle.model_types.specs.Types.{CType, Form, Void, Integer, Enum, Pointer, Array, Struct, Function, form_of_type}
use Rattle.model_types.specs.Structures.{Structure}
use Rattle.model_grammar.specs.declared.syntax.Name.{Name}
use Rattle.model_core.specs.CoreTypes.{int_type, basic_of}
use Rattle.model_core.specs.SameTypes.{is_integer}
use Rattle.model_core.specs.TypedParts.{is_struct, constant_fits}
use Rattle.model_core.specs.PossibleTypes.{is_possible}
use Rattle.model_scopes.specs.declared.declarations.Kind.{Kind}
use Rattle.model_scopes.specs.declared.declarations.Kind.TheVariants.{Object, Function as function_kind, TypeName, Enumerator, Tag}
use Rattle.model_scopes.specs.Declarations.{Value, Declaration, is_tag, is_typedef, has_linkage}
use Rattle.model_scopes.specs.DeclarationRules.{is_struct_form, has_prefix, clashes_with, may_repeat, broken_later, broken_rule}
use Rattle.model_scopes.specs.Scopes.{Declared}
use Rattle.model_scopes.specs.Binding.{here}
use Rattle.model_scopes.specs.Declaring.{declare}
use Rattle.model_checking.specs.State.{State, Answer, gives, then_do, unless, breaks, in_scopes}
use Rattle.model_checking.specs.FaultsBeside.{fault_if}
use Rattle.model_checking.specs.DeclaratorNames.{rule_at}
use Rattle.model_checking.specs.Tags.{tag_here, tag_declaration, declared_unless, declared_tag}
use Rattle.model_checking.specs.Enumerations.{enum_type, Enumeration, begun_as, begun_by, begun, braces_rule, enum_begun, enumerator_type, enumerator_declaration, enumerator_rule, value_behind, range_fault, with_enumerator, enumerator}
use Rattle.typed_walk_laws.specs.SoundScopes.{is_of_kind, is_sound_declaration, are_sound}
use Rattle.typed_walk_laws.specs.Behind.{TypesKept, SoundBoth, GivesSound}
use Rattle.typed_walk_laws.proofs.Walks.{Anything, all_kept, after, after_fault, after_unless, given}
use Rattle.typed_walk_laws.proofs.Declared.{PossibleType, declared_sound, declared_tag_sound, declare_first_sound}
use Rattle.typed_walk_laws.proofs.SpecifiedTypes.{PossibleIfAny}

-- an enumeration has a possible integer type
pub record SoundEnumeration (structs : List Structure) (e : Enumeration) : Type 0 where
  pub possible : is_possible structs e.type ≡ true
  pub integer : is_integer (form_of_type e.type) ≡ true

pub enumeration_kept : (a b : List Structure) (e : Enumeration) → TypesKept a b → SoundEnumeration a e → SoundEnumeration b e
enumeration_kept a b e k h = record { possible = k.possible e.type h.possible; integer = h.integer }

-- ---- a tag that is declared again is one

last_of : (a b c : Bool) → ((a && false) || (b && false) || (c && true)) ≡ true → c ≡ true
last_of a b true h = refl
last_of true true false h = h
last_of true false false h = h
last_of false true false h = h
last_of false false false h = h

of_tag : (k : Kind) (form : Form) (value : Option Value) → is_tag k ≡ true → is_of_kind k form value ≡ true → (is_struct form || is_integer form) ≡ true
of_tag Tag form value t h = h
of_tag Object form value t h = cc
of_tag function_kind form value t h = cc
of_tag TypeName form value t h = cc
of_tag Enumerator form value t h = cc

unclashing : (prefixed clashes : Bool) (later : Option ℕ) → (if prefixed then Some 1 else if clashes then Some 2 else later) ≡ None → clashes ≡ false
unclashing true clashes later h = cc
unclashing false true later h = cc
unclashing false false later h = refl

-- the type of a tag of this scope is that of a structure or an enumeration, where it may be declared with braces
pub tag_form : (name : Name) (s : State) (d : Declared) (type : CType) → are_sound s.scopes ≡ true → tag_here name s ≡ Some d →
    broken_rule (tag_declaration name type true) s.scopes ≡ None → is_of_kind Tag (form_of_type d.latest.ty) None ≡ true
tag_form name s d type h e r =
    let t = tag_declaration name type true in
    let free = unclashing (has_prefix name.text) (clashes_with t (tag_here name s)) (broken_later t (tag_here name s)) r in
    let alone : clashes_with t (Some d) ≡ false = ap (clashes_with t) (sym e) ∙ free in
    let tag = last_of (has_linkage d.latest) (is_typedef d.latest.kind) (is_tag d.latest.kind) (not-false (may_repeat d.latest t) alone) in
    of_tag d.latest.kind (form_of_type d.latest.ty) d.latest.value tag
    (and_parts (is_possible s.scopes.structs d.latest.ty) (is_of_kind d.latest.kind (form_of_type d.latest.ty) d.latest.value)
    (declared_sound (here true name.text s.scopes) s.scopes d h e)).1

pub tag_possible : (name : Name) (s : State) (d : Declared) → are_sound s.scopes ≡ true → tag_here name s ≡ Some d → is_possible s.scopes.structs d.latest.ty ≡ true
tag_possible name s d h e =
    (and_parts (is_possible s.scopes.structs d.latest.ty) (is_of_kind d.latest.kind (form_of_type d.latest.ty) d.latest.value)
    (declared_sound (here true name.text s.scopes) s.scopes d h e)).0

tag_again_by : (name : Name) (type : CType) (s : State) (rule : Option ℕ) → are_sound s.scopes ≡ true → is_possible s.scopes.structs type ≡ true →
    broken_rule (tag_declaration name type true) s.scopes ≡ rule → (rule ≡ None → is_of_kind Tag (form_of_type type) None ≡ true) →
    GivesSound s PossibleType (declared_unless rule (tag_declaration name type true) s)
tag_again_by name type s None h p e k =
    subst (λ r. GivesSound s PossibleType (declared_unless r (tag_declaration name type true) s)) e
    (declared_tag_sound name type true s h (and_from (is_possible s.scopes.structs type) (is_of_kind Tag (form_of_type type) None) p (k refl)))
tag_again_by name type s (Some rule) h p e k = tt

-- a tag of this scope that has its braces now
pub tag_again_form : (name : Name) (s : State) (d : Declared) → are_sound s.scopes ≡ true → tag_here name s ≡ Some d →
    GivesSound s PossibleType (declared_tag (tag_declaration name d.latest.ty true) s)
tag_again_form name s d h e =
    tag_again_by name d.latest.ty s (broken_rule (tag_declaration name d.latest.ty true) s.scopes) h (tag_possible name s d h e) refl
    (λ r. tag_form name s d d.latest.ty h e r)

-- ---- before the enumerators

begun_as_form : (is_fixed : Bool) (rule : Option ℕ) (d : Declaration) (s : State) → GivesSound s PossibleType (declared_unless rule d s) →
    (rule ≡ None → is_integer (form_of_type d.ty) ≡ true) → GivesSound s SoundEnumeration (begun_as is_fixed (declared_unless rule d s))
begun_as_form is_fixed None d s h k = (h.0, record { possible = h.1; integer = k refl })
begun_as_form is_fixed (Some rule) d s h k = tt

integer_of : (f : Form) → is_struct_form f ≡ false → (is_struct f || is_integer f) ≡ true → is_integer f ≡ true
integer_of Void e h = h
integer_of (Integer b) e h = h
integer_of (Enum b d) e h = h
integer_of (Pointer t) e h = h
integer_of (Array t n) e h = h
integer_of (Struct id) e h = cc
integer_of (Function t ps v) e h = h

new_tag_form : (name : Name) (fixed : Option Basic) (place : Place) (s : State) → are_sound s.scopes ≡ true →
    GivesSound s SoundEnumeration (begun_as (is_some fixed) (declared_tag (tag_declaration name (enum_type fixed place) true) s))
new_tag_form name fixed place s h =
    begun_as_form (is_some fixed) (broken_rule (tag_declaration name (enum_type fixed place) true) s.scopes) (tag_declaration name (enum_type fixed place) true) s
    (declared_tag_sound name (enum_type fixed place) true s h refl) (λ n. refl)

begun_again : (name : Name) (s : State) (d : Declared) (b : Bool) → are_sound s.scopes ≡ true → tag_here name s ≡ Some d → is_struct_form (form_of_type d.latest.ty) ≡ b →
    GivesSound s SoundEnumeration (if b then breaks name.place 6 else begun_as true (declared_tag (tag_declaration name d.latest.ty true) s))
begun_again name s d true h e q = tt
begun_again name s d false h e q =
    begun_as_form true (broken_rule (tag_declaration name d.latest.ty true) s.scopes) (tag_declaration name d.latest.ty true) s (tag_again_form name s d h e)
    (λ r. integer_of (form_of_type d.latest.ty) q (tag_form name s d d.latest.ty h e r))

begun_form_by : (o : Option Declared) (name : Name) (fixed : Option Basic) (place : Place) (s : State) → are_sound s.scopes ≡ true → tag_here name s ≡ o →
    GivesSound s SoundEnumeration (begun_by o name fixed place s)
begun_form_by None name fixed place s h e = new_tag_form name fixed place s h
begun_form_by (Some d) name fixed place s h e = begun_again name s d (is_struct_form (form_of_type d.latest.ty)) h e refl

begun_form : (tag : Option Name) (fixed : Option Basic) (place : Place) (s : State) → are_sound s.scopes ≡ true → GivesSound s SoundEnumeration (begun tag fixed place s)
begun_form None fixed place s h =
    given SoundEnumeration s (record { type = enum_type fixed place; is_fixed = is_some fixed }) h (record { possible = refl; integer = refl })
begun_form (Some name) fixed place s h = begun_form_by (tag_here name s) name fixed place s h refl

pub enum_begun_form : (tag : Option Name) (place : Place) (s : State) (answer : Answer (Option Basic)) → GivesSound s Anything answer →
    GivesSound s SoundEnumeration (enum_begun tag place s answer)
enum_begun_form tag place s answer h =
    after_fault (SoundBoth s SoundEnumeration) (rule_at (braces_rule place s) tag) (then_do answer (λ fixed t. begun tag fixed place t)) (λ n.
    after Anything SoundEnumeration s answer (λ fixed t. begun tag fixed place t) h (λ fixed t later p. begun_form tag fixed place t later.sound))

-- ---- an enumerator

possible_by : (structs : List Structure) (b : Bool) (t : CType) → is_possible structs t ≡ true → is_possible structs (if b then t else int_type) ≡ true
possible_by structs true t h = h
possible_by structs false t h = refl

integer_by : (b : Bool) (t : CType) → is_integer (form_of_type t) ≡ true → is_integer (form_of_type (if b then t else int_type)) ≡ true
integer_by true t h = h
integer_by false t h = refl

fits_form : (f : Form) (value : ℤ) → is_integer f ≡ true → fits (basic_of f) value ≡ true → constant_fits value f ≡ true
fits_form (Integer b) value e h = h
fits_form (Enum b d) value e h = h
fits_form Void value e h = cc
fits_form (Pointer t) value e h = cc
fits_form (Array t n) value e h = cc
fits_form (Struct id) value e h = cc
fits_form (Function t ps v) value e h = cc

in_range : (b : Bool) (place : Place) → fault_if (not b) place 30 ≡ None → b ≡ true
in_range true place e = refl
in_range false place e = cc

enumerator_sound : (structs : List Structure) (e : Enumeration) (name : Name) (value : ℤ) → SoundEnumeration structs e → range_fault e name value ≡ None →
    is_sound_declaration structs (enumerator_declaration e name value) ≡ true
enumerator_sound structs e name value h n =
    let form = form_of_type (enumerator_type e) in
    let integer = integer_by e.is_fixed e.type h.integer in
    and_from (is_possible structs (enumerator_type e)) (is_integer form && constant_fits value form) (possible_by structs e.is_fixed e.type h.possible)
    (and_from (is_integer form) (constant_fits value form) integer (fits_form form value integer (in_range (fits (basic_of form) value) name.place n)))

declared_form : (e : Enumeration) (name : Name) (value : ℤ) (s : State) → are_sound s.scopes ≡ true → SoundEnumeration s.scopes.structs e → range_fault e name value ≡ None →
    GivesSound s Anything (gives value (in_scopes (declare (enumerator_declaration e name value) s.scopes) s))
declared_form e name value s h p n =
    (record { sound = declare_first_sound (enumerator_declaration e name value) s.scopes h (enumerator_sound s.scopes.structs e name value p n); kept = all_kept s.scopes.structs }, refl)

with_enumerator_form : (e : Enumeration) (name : Name) (value : ℤ) (s : State) → are_sound s.scopes ≡ true → SoundEnumeration s.scopes.structs e →
    GivesSound s Anything (with_enumerator e name value s)
with_enumerator_form e name value s h p =
    after_fault (SoundBoth s Anything) (rule_at (enumerator_rule e s) (Some name))
    (unless (range_fault e name value) (gives value (in_scopes (declare (enumerator_declaration e name value) s.scopes) s))) (λ m.
    after_unless (SoundBoth s Anything) (range_fault e name value) (gives value (in_scopes (declare (enumerator_declaration e name value) s.scopes) s)) (λ n.
    declared_form e name value s h p n))

enumerator_form : (e : Enumeration) (previous : Option ℤ) (name : Name) (s : State) (answer : Answer (Option ℤ)) → SoundEnumeration s.scopes.structs e →
    GivesSound s Anything answer → GivesSound s Anything (enumerator e previous name s answer)
enumerator_form e previous name s answer p h =
    after_fault (SoundBoth s Anything) (rule_at (enumerator_rule e s) (Some name)) (then_do answer (λ value t. with_enumerator e name (value_behind previous value) t)) (λ n.
    after Anything Anything s answer (λ value t. with_enumerator e name (value_behind previous value) t) h (λ value t later q.
    with_enumerator_form e name (value_behind previous value) t later.sound (enumeration_kept s.scopes.structs t.scopes.structs e later.kept p)))

-- enumerators behind one of a value
abbrev pub EnumeratorsSound : Enumeration → (Option ℤ → State → Answer (Option CType)) → Type 0
EnumeratorsSound e part =
    (previous : Option ℤ) (s : State) → are_sound s.scopes ≡ true → SoundEnumeration s.scopes.structs e → GivesSound s PossibleIfAny (part previous s)

pub no_enumerators_form : (e : Enumeration) (s : State) → are_sound s.scopes ≡ true → SoundEnumeration s.scopes.structs e → GivesSound s PossibleIfAny (gives (Some e.type) s)
no_enumerators_form e s h p = given PossibleIfAny s (Some e.type) h p.possible

pub more_enumerators_form : (e : Enumeration) (previous : Option ℤ) (name : Name) (s : State) (answer : Answer (Option ℤ)) (others : Option ℤ → State → Answer (Option CType)) →
    SoundEnumeration s.scopes.structs e → GivesSound s Anything answer → EnumeratorsSound e others →
    GivesSound s PossibleIfAny (then_do (enumerator e previous name s answer) (λ next t. others (Some next) t))
more_enumerators_form e previous name s answer others p h k =
    after Anything PossibleIfAny s (enumerator e previous name s answer) (λ next t. others (Some next) t) (enumerator_form e previous name s answer p h) (λ next t later q.
    k (Some next) t later.sound (enumeration_kept s.scopes.structs t.scopes.structs e later.kept p))

pub enumeration_form : (tag : Option Name) (place : Place) (s : State) (fixed : Answer (Option Basic)) (others : Enumeration → Option ℤ → State → Answer (Option CType)) →
    GivesSound s Anything fixed → ((e : Enumeration) → EnumeratorsSound e (others e)) →
    GivesSound s PossibleIfAny (then_do (enum_begun tag place s fixed) (λ e t. others e None t))
enumeration_form tag place s fixed others h k =
    after SoundEnumeration PossibleIfAny s (enum_begun tag place s fixed) (λ e t. others e None t) (enum_begun_form tag place s fixed h) (λ e t later p. k e None t later.sound p)
