-- The types of declarators of pointers and arrays are possible.
use Rattle.std.proofs.Common.{◌≡◌, ◌∙◌, ap, sym, refl, ℕ, ℤ, Bool, true, false, ◌&&◌, not, List, [], ◌∷◌, ◌++◌, Option, Some, None, Result, Ok, Err, if◌then◌else◌}
use Rattle.std.specs.List.{list_all}
use Rattle.std.specs.Option.{unwrap_or}
use Rattle.std.specs.Result.{IfOk}
use Rattle.std.proofs.lemmas.Bool.{and_parts, and_from, not-false}
use Rattle.std.proofs.lemmas.List.Folds.{list_all-append}
use Rattle.cake_base.specs.declared.places.Place.{Place}
use Rattle.cake_base.specs.declared.rules.Fault.{Fault}
use Rattle.model_types.specs.Types.{CType, typed, Array, form_of_type}
use Rattle.model_types.specs.Structures.{Structure}
use Rattle.model_types.specs.Layout.{is_complete}
use Rattle.model_grammar.specs.declared.syntax.Pointer.{Pointer}
use Rattle.model_grammar.specs.SyntaxForms as syntax
use Rattle.c_tree.specs.SyntaxPlaces.{expr_first}
use Rattle.model_core.specs.CoreTypes.{plain, pointer_to, int_type}
use Rattle.model_core.specs.TypedParts.{is_function}
use Rattle.model_core.specs.PossibleTypes.{is_possible, length_fits}
use Rattle.model_scopes.specs.DeclarationRules.{constraint_at}
use Rattle.model_checking.specs.State.{Use, Evaluated, Unevaluated, State, Both, both, Answer, gives, then_do, with_state}
use Rattle.model_checking.specs.Faults.{or_fault}
use Rattle.model_checking.specs.FaultsBeside.{first_of_faults, fault_if}
use Rattle.model_checking.specs.Parts.{Specified, Declared}
use Rattle.model_checking.specs.Derivations.{Derivation, a_pointer, an_array, a_function, a_faulty_array, a_faulty_function, Steps, with_pointers, and_steps, behind_pointers, array_length, array_step}
use Rattle.model_checking.specs.DeclaratorTypes.{Typing, typing, typed_unless, element_fault, array_fault, pointed, step, step_from_unknown, step_from, derived, inner_void_faults, steps_typing, declarator}
use Rattle.model_checking.specs.Reading.{an_array_of, declared_type, note_declared}
use Rattle.typed_rule_laws.proofs.Outcomes.{neither}
use Rattle.typed_walk_laws.specs.SoundScopes.{are_sound}
use Rattle.typed_walk_laws.specs.Behind.{TypesKept, Behind, SoundBoth, GivesSound}
use Rattle.typed_walk_laws.proofs.Walks.{Anything, after, by_rule, given, behind_here, behind_both}
use Rattle.typed_walk_laws.proofs.SpecifiedTypes.{PossibleIfAny, SpecifiedPossible, qualified_possible}

-- ---- steps

abbrev is_plain : Derivation → Bool
is_plain (a_pointer qualifiers) = true
is_plain (an_array count) = true
is_plain (a_function parameters is_variadic entries) = false
is_plain a_faulty_array = false
is_plain (a_faulty_function count parameters is_variadic entries) = false

-- pointers and arrays, where nothing is broken
abbrev pub PlainSteps : List Structure → Steps → Type 0
PlainSteps structs x = x.fault ≡ None → list_all is_plain x.steps ≡ true

two_plain : (ds es : List Derivation) → list_all is_plain ds ≡ true → list_all is_plain es ≡ true → list_all is_plain (ds ++ es) ≡ true
two_plain ds es h k = list_all-append is_plain ds es ∙ and_from (list_all is_plain ds) (list_all is_plain es) h k

pointers_plain : (ps : List Pointer) (ds : List Derivation) → list_all is_plain ds ≡ true → list_all is_plain (with_pointers ps ds) ≡ true
pointers_plain [] ds h = h
pointers_plain (p ∷ ps) ds h = two_plain (with_pointers ps ds) (a_pointer p.qualifiers ∷ []) (pointers_plain ps ds h) refl

pub behind_pointers_sound : (before : State) (ps : List Pointer) (x : Both Steps) → SoundBoth before PlainSteps x → SoundBoth before PlainSteps (behind_pointers ps x)
behind_pointers_sound before ps x h = (h.0, λ n. pointers_plain ps x.made.steps (h.1 n))

steps_by : (before t : State) (steps : List Derivation) (fault : Option Fault) (outline : List Derivation) (others : State → Both Steps) → Behind before t →
    (fault ≡ None → list_all is_plain steps ≡ true) → SoundBoth t PlainSteps (others t) →
    SoundBoth before PlainSteps (and_steps (both (record { steps = steps; fault = fault }) t) outline others)
steps_by before t steps None outline others h p k =
    (behind_both before t (others t).state h k.0, λ n. two_plain steps (others t).made.steps (p refl) (k.1 n))
steps_by before t steps (Some fault) outline others h p k = (h, λ n. cc)

pub and_steps_sound : (before : State) (x : Both Steps) (outline : List Derivation) (others : State → Both Steps) → SoundBoth before PlainSteps x →
    SoundBoth x.state PlainSteps (others x.state) → SoundBoth before PlainSteps (and_steps x outline others)
and_steps_sound before x outline others h k = steps_by before x.state x.made.steps x.made.fault outline others h.0 h.1 k

-- ---- an array

abbrev PlainStep : List Structure → Derivation → Type 0
PlainStep structs d = is_plain d ≡ true

pub anything : {A : Type 0} (structs : List Structure) (r : Result A Fault) → IfOk r (Anything structs)
anything structs (Ok x) = refl
anything structs (Err fault) = tt

counted_by : (t : State) (r : Result (Option ℕ) Fault) → are_sound t.scopes ≡ true → GivesSound t PlainStep (then_do (with_state r t) (λ n u. gives (an_array n) u))
counted_by t (Ok n) h = given PlainStep t (an_array n) h refl
counted_by t (Err fault) h = tt

abbrev length_by : syntax.Expr → Option ℤ → Result (Option ℕ) Fault
length_by e None = Ok None
length_by e (Some value) = array_length (expr_first e) value

array_of_sound : (s : State) (count : syntax.MaybeExpr) (answer : Answer (Option ℤ)) → GivesSound s Anything answer → GivesSound s PlainStep (an_array_of count answer)
array_of_sound s syntax.no_expr answer h = after Anything PlainStep s answer _ h (λ value t behind p. counted_by t (Ok None) behind.sound)
array_of_sound s (syntax.an_expr e) answer h = after Anything PlainStep s answer _ h (λ value t behind p. counted_by t (length_by e value) behind.sound)

array_step_by : (s : State) (answer : Answer Derivation) → are_sound s.scopes ≡ true → GivesSound s PlainStep answer → SoundBoth s PlainSteps (array_step s answer)
array_step_by s (Ok x) h k = (k.0, λ n. and_from (is_plain x.made) true k.1 refl)
array_step_by s (Err fault) h k = (behind_here s h, λ n. cc)

pub array_step_sound : (s : State) (count : syntax.MaybeExpr) (answer : Answer (Option ℤ)) → are_sound s.scopes ≡ true → GivesSound s Anything answer →
    SoundBoth s PlainSteps (array_step s (an_array_of count answer))
array_step_sound s count answer h k = array_step_by s (an_array_of count answer) h (array_of_sound s count answer k)

-- ---- types

unbroken : (b : Bool) (place : Place) (rule : ℕ) → fault_if b place rule ≡ None → b ≡ false
unbroken true place rule h = cc
unbroken false place rule h = refl

whole_by : (b : Bool) (structs : List Structure) (first : Place) (t : CType) →
    (if b then Some (constraint_at first 28) else fault_if (not (is_complete structs t)) first 22) ≡ None → is_complete structs t ≡ true
whole_by true structs first t h = cc
whole_by false structs first t h = not-false (is_complete structs t) (unbroken (not (is_complete structs t)) first 22 h)

array_possible : (structs : List Structure) (first : Place) (t : CType) (n : Option ℕ) → is_possible structs t ≡ true → array_fault structs first t n ≡ None →
    is_possible structs (plain (Array t n)) ≡ true
array_possible structs first t n h e =
    let two = neither (element_fault structs first t) (fault_if (not (length_fits structs t n)) first 25) e in
    let whole = whole_by (is_function (form_of_type t)) structs first t two.first in
    and_from (is_possible structs t && is_complete structs t) (length_fits structs t n) (and_from (is_possible structs t) (is_complete structs t) h whole)
    (not-false (length_fits structs t n) (unbroken (not (length_fits structs t n)) first 25 two.second))

unless_possible : (structs : List Structure) (o : Option Fault) (t : CType) → (o ≡ None → is_possible structs t ≡ true) → PossibleIfAny structs (typed_unless o t).type
unless_possible structs None t h = h refl
unless_possible structs (Some fault) t h = refl

step_possible : (structs : List Structure) (first : Place) (d : Derivation) (type : Option CType) → is_plain d ≡ true → PossibleIfAny structs type →
    PossibleIfAny structs (step_from structs first d type).type
step_possible structs first (a_pointer qualifiers) (Some t) e h = qualified_possible structs qualifiers (pointer_to t) ∙ h
step_possible structs first (an_array n) (Some t) e h = unless_possible structs (array_fault structs first t n) (plain (Array t n)) (array_possible structs first t n h)
step_possible structs first (a_pointer qualifiers) None e h = refl
step_possible structs first (an_array n) None e h = refl
step_possible structs first (a_function parameters is_variadic entries) type e h = cc
step_possible structs first a_faulty_array type e h = cc
step_possible structs first (a_faulty_function count parameters is_variadic entries) type e h = cc

pub derived_possible : (structs : List Structure) (first : Place) (base : Option CType) (ds : List Derivation) → list_all is_plain ds ≡ true → PossibleIfAny structs base →
    PossibleIfAny structs (derived structs first base ds).type
derived_possible structs first base [] e h = h
derived_possible structs first base (d ∷ ds) e h =
    let parts = and_parts (is_plain d) (list_all is_plain ds) e in
    step_possible structs first d (derived structs first base ds).type parts.0 (derived_possible structs first base ds parts.1 h)

-- ---- declarators

pub former_none : (f g : Option Fault) → first_of_faults f g ≡ None → f ≡ None
former_none None g h = refl
former_none (Some f) None h = cc
former_none (Some f) (Some g) h = cc

pub latter_none : (f g : Option Fault) → first_of_faults f g ≡ None → g ≡ None
latter_none None g h = h
latter_none (Some f) None h = refl
latter_none (Some f) (Some g) h = cc

-- where nothing is broken, the type is possible
abbrev pub PossibleDeclared : List Structure → Declared → Type 0
PossibleDeclared structs d = d.fault ≡ None → is_possible structs (declared_type d) ≡ true

abbrev or_int : Option CType → CType
or_int o = unwrap_or o int_type

declared_possible : (a b : List Structure) (o : Option CType) (d : Declared) → TypesKept a b → d.type ≡ o → PossibleIfAny a o → is_possible b (declared_type d) ≡ true
declared_possible a b None d k e h = ap (λ o. is_possible b (or_int o)) e
declared_possible a b (Some t) d k e h = ap (λ o. is_possible b (or_int o)) e ∙ k.possible t h

pub declarator_sound : (given : Specified) (first : Place) (d : syntax.Declarator) (s : State) (x : Both Steps) → SpecifiedPossible s.scopes.structs given → SoundBoth s PlainSteps x →
    SoundBoth s PossibleDeclared (declarator given first d s x)
declarator_sound given first d s x p h = (
  h.0,
  λ n.
      let outer = former_none (first_of_faults x.made.fault (inner_void_faults x.made.steps)) (derived s.scopes.structs first given.type x.made.steps).fault n in
      let plain = h.1 (former_none x.made.fault (inner_void_faults x.made.steps) outer) in
      declared_possible s.scopes.structs x.state.scopes.structs (derived s.scopes.structs first given.type x.made.steps).type (declarator given first d s x).made h.0.kept refl
      (derived_possible s.scopes.structs first given.type x.made.steps plain p),
)

pub note_declared_sound : (u : Use) (s : State) (x : Both Declared) → SoundBoth s PossibleDeclared x → GivesSound s PossibleDeclared (note_declared u x)
note_declared_sound Evaluated s x h = (record { sound = h.0.sound; kept = h.0.kept }, h.1)
note_declared_sound Unevaluated s x h = h
