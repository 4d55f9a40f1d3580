-- Compound literals are typed objects.
use Rattle.std.proofs.Common.{◌≡◌, ◌∙◌, ap, sym, refl, ℕ, zero, suc, nat_lt, Bool, true, false, ◌&&◌, ◌||◌, if◌then◌else◌, List, [], ◌∷◌, Some, None, is_some, Result, Ok, Err, arith}
use Rattle.std.specs.Result.{IfOk}
use Rattle.std.proofs.lemmas.Bool.{and_parts, and_from, lt-ltb}
use Rattle.cake_base.specs.declared.places.Place.{Place}
use Rattle.cake_base.specs.declared.rules.Fault.{Fault}
use Rattle.model_types.specs.declared.marks.Mark.{Mark}
use Rattle.model_types.specs.declared.types.Quals.{Quals}
use Rattle.model_types.specs.Types.{CType, typed, Void, Integer, Enum, Pointer, Array, Struct, Function, form_of_type}
use Rattle.model_types.specs.Structures.{Structure}
use Rattle.model_types.specs.Layout.{is_complete, size_of}
use Rattle.model_core.specs.TypedParts.{is_function, is_storable}
use Rattle.model_core.specs.TypedExpr.{are_typed_values}
use Rattle.model_core.specs.PossibleTypes.{is_possible, are_structures}
use Rattle.model_checking.specs.State.{breaks, Use, Evaluated, Unevaluated, State, Both, with_both, Answer, gives, then_do, unless, with_state}
use Rattle.model_checking.specs.FaultsBeside.{first_of_faults}
use Rattle.model_checking.specs.Parts.{Declared, Given, GivenItems, in_braces}
use Rattle.model_checking.specs.Placing as placing
use Rattle.model_checking.specs.Placing.{Placed, placement, given_first}
use Rattle.model_checking.specs.Fitting.{Fit, fitted}
use Rattle.model_checking.specs.ArrayLengths.{elements_in, with_elements}
use Rattle.model_checking.specs.InitialValues.{written_zero, no_zero}
use Rattle.model_checking.specs.ScalarCounts.{has_too_many}
use Rattle.model_checking.specs.Initializing.{is_without_length, lengthless_fault, Fitted, with_its_length, fitted_object, fit_in, automatic_values, values_in, state_after, Initialized, initialized}
use Rattle.model_checking.specs.CompoundLiterals.{literal_fault, object_made, is_at_file_scope, compound_literal}
use Rattle.model_checking.specs.Reading.{declared_type}
use Rattle.typed_walk_laws.specs.SoundScopes.{are_sound}
use Rattle.typed_walk_laws.specs.Behind.{SoundBoth, GivesSound}
use Rattle.typed_walk_laws.proofs.Walks.{TypedMeaning, from_before, all_kept, after, after_unless, by_rule, behind_here}
use Rattle.typed_walk_laws.proofs.Declarators.{PossibleDeclared, former_none, latter_none}
use Rattle.typed_rule_laws.proofs.Outcomes.{wanted}
use Rattle.typed_expression_laws.proofs.GivenForms.{TypedGiven, TypedItems}
use Rattle.typed_expression_laws.proofs.PlacedForms.{type_along, placement_typed}
use Rattle.typed_expression_laws.proofs.FittedForms.{FitSound, AreFitted, fit_sound, placement_fitted}
use Rattle.typed_expression_laws.proofs.ValueForms.{Reaches, no_zero_typed, written_zero_typed, initial_values_typed}

-- ---- the type with its length

pub record FullOf (structs : List Structure) (object full : CType) : Type 0 where
  pub possible : is_possible structs full ≡ true
  pub reaches : Reaches structs full object
  pub same_kind : is_function (form_of_type full) ≡ is_function (form_of_type object)

full_self : (structs : List Structure) (object : CType) → is_possible structs object ≡ true → FullOf structs object object
full_self structs object p = record { possible = p; reaches = λ path type e st. e; same_kind = refl }

never : false ≡ true → ⊥
never h = cc

array_reaches : (structs : List Structure) (t : CType) (n : ℕ) (full object : CType) → full ≡ t → is_storable (form_of_type full) ≡ false → is_storable (form_of_type t) ≡ true → ⊥
array_reaches structs t n full object e f st = never (sym f ∙ (ap (λ t. is_storable (form_of_type t)) e ∙ st))

length_reaches : (structs : List Structure) (t : CType) (n : ℕ) (q : Quals) (path : List ℕ) (type : CType) → type_along structs (typed (Array t (Some n)) q) path ≡ Some type →
    is_storable (form_of_type type) ≡ true → type_along structs (typed (Array t None) q) path ≡ Some type
length_reaches structs t n q [] type e st =
    let same : typed (Array t (Some n)) q ≡ type = cc in
    absurd (array_reaches structs type n (typed (Array t (Some n)) q) (typed (Array t None) q) same refl st)
length_reaches structs t n q (rank ∷ ranks) type e st = e

small_by : (structs : List Structure) (first : Place) (t : CType) (n : ℕ) (q : Quals) (b : Bool) → is_some (size_of structs (typed (Array t (Some (suc n))) q)) ≡ b →
    is_possible structs (typed (Array t None) q) ≡ true → IfOk (if b then Ok (typed (Array t (Some (suc n))) q) else breaks first 25) (FullOf structs (typed (Array t None) q))
small_by structs first t n q true e p = record {
  possible = and_from (is_possible structs t && is_complete structs t) (nat_lt 0 (suc n) && is_some (size_of structs (typed (Array t (Some (suc n))) q)))
      (and_parts (is_possible structs t && is_complete structs t) true p).0
      (and_from (nat_lt 0 (suc n)) (is_some (size_of structs (typed (Array t (Some (suc n))) q))) (lt-ltb 0 (suc n) (omega arith)) e);
  reaches = length_reaches structs t (suc n) q;
  same_kind = refl;
}
small_by structs first t n q false e p = tt

with_full : (structs : List Structure) (first : Place) (object : CType) (count : ℕ) → is_possible structs object ≡ true →
    IfOk (with_elements structs first object count) (FullOf structs object)
with_full structs first (typed (Array t None) q) zero p = tt
with_full structs first (typed (Array t None) q) (suc n) p = small_by structs first t n q (is_some (size_of structs (typed (Array t (Some (suc n))) q))) refl p
with_full structs first (typed (Array t (Some m)) q) count p = full_self structs (typed (Array t (Some m)) q) p
with_full structs first (typed Void q) count p = full_self structs (typed Void q) p
with_full structs first (typed (Integer b) q) count p = full_self structs (typed (Integer b) q) p
with_full structs first (typed (Enum b d) q) count p = full_self structs (typed (Enum b d) q) p
with_full structs first (typed (Pointer t) q) count p = full_self structs (typed (Pointer t) q) p
with_full structs first (typed (Struct id) q) count p = full_self structs (typed (Struct id) q) p
with_full structs first (typed (Function t ps v) q) count p = full_self structs (typed (Function t ps v) q) p

-- ---- what is placed, and the type

pub record GoodFitted (object : CType) (structs : List Structure) (o : Fitted) : Type 0 where
  pub full : FullOf structs object o.type
  pub placed : AreFitted structs object o.placed

lengthed : (structs : List Structure) (object : CType) (r : Result CType Fault) (ps : List Placed) → IfOk r (FullOf structs object) → AreFitted structs object ps →
    IfOk (placing.after r (λ full. Ok (record { type = full; placed = ps }))) (GoodFitted object structs)
lengthed structs object (Ok full) ps h k = record { full = h; placed = k }
lengthed structs object (Err fault) ps h k = tt

placed_after : (structs : List Structure) (first : Place) (object : CType) (r : Result (List Placed) Fault) → is_possible structs object ≡ true → IfOk r (AreFitted structs object) →
    IfOk (placing.after r (with_its_length structs first object)) (GoodFitted object structs)
placed_after structs first object (Ok ps) p h =
    lengthed structs object (with_elements structs first object (elements_in ps)) ps (with_full structs first object (elements_in ps) p) h
placed_after structs first object (Err fault) p h = tt

object_fitted : (structs : List Structure) (fit : Fit) (first : Place) (object : CType) (given : Given) → FitSound structs fit → are_structures structs ≡ true →
    is_possible structs object ≡ true → TypedGiven structs given → IfOk (fitted_object structs fit first object given) (GoodFitted object structs)
object_fitted structs fit first object given f s p h =
    after_unless (GoodFitted object structs) (lengthless_fault first (form_of_type object) given)
    (placing.after (fitted fit (placement structs object given)) (with_its_length structs first object)) (λ n.
    placed_after structs first object (fitted fit (placement structs object given)) p
    (placement_fitted structs object fit (placement structs object given) f (placement_typed structs object given s p h)))

-- ---- the values

automatic_typed : (b : Bool) (structs : List Structure) (object : CType) (zeros : Place) (o : Fitted) → GoodFitted object structs o →
    are_typed_values (automatic_values b structs zeros o) ≡ true
automatic_typed true structs object zeros o h = refl
automatic_typed false structs object zeros o h =
    initial_values_typed structs o.type object (written_zero zeros) o.placed h.full.reaches (written_zero_typed zeros) h.placed

values_in_typed : (is_static : Bool) (structs : List Structure) (object : CType) (zeros : Place) (o : Fitted) → GoodFitted object structs o →
    are_typed_values (values_in is_static structs zeros o) ≡ true
values_in_typed true structs object zeros o h = initial_values_typed structs o.type object no_zero o.placed h.full.reaches no_zero_typed h.placed
values_in_typed false structs object zeros o h = automatic_typed (has_too_many structs o.type) structs object zeros o h

pub record GoodInitialized (object : CType) (structs : List Structure) (o : Initialized) : Type 0 where
  pub values : are_typed_values o.values ≡ true
  pub possible : is_possible structs o.type ≡ true
  pub same_kind : is_function (form_of_type o.type) ≡ is_function (form_of_type object)

pub initialized_sound : (is_static : Bool) (first name : Place) (type : CType) (given : Given) (s : State) → are_sound s.scopes ≡ true → is_possible s.scopes.structs type ≡ true →
    TypedGiven s.scopes.structs given → GivesSound s (GoodInitialized type) (initialized is_static first name type given s)
initialized_sound is_static first name type given s h p k =
    after (GoodFitted type) (GoodInitialized type) s (with_state (fitted_object s.scopes.structs (fit_in is_static s) first type given) s)
    (λ o t. gives (record { type = o.type; values = values_in is_static t.scopes.structs (given_first given) o }) (state_after is_static name o t))
    (by_rule (GoodFitted type) s s (fitted_object s.scopes.structs (fit_in is_static s) first type given) (behind_here s h)
    (object_fitted s.scopes.structs (fit_in is_static s) first type given (fit_sound is_static s) (and_parts (are_structures s.scopes.structs) _ h).0 p k))
    (λ o t later good. (
      record { sound = later.sound; kept = all_kept t.scopes.structs },
      record {
        values = values_in_typed is_static t.scopes.structs type (given_first given) o good;
        possible = good.full.possible;
        same_kind = good.full.same_kind;
      },
    ))

-- ---- a compound literal

object_made_sound : (is_static : Bool) (u : Use) (mark : Mark) (type : CType) (o : Initialized) (s : State) → are_sound s.scopes ≡ true →
    is_function (form_of_type type) ≡ false → GoodInitialized type s.scopes.structs o → GivesSound s TypedMeaning (object_made is_static u mark o s)
object_made_sound true u mark type o s h f good =
    let free : is_function (form_of_type o.type) ≡ false = good.same_kind ∙ f in
    (record { sound = h; kept = all_kept s.scopes.structs }, rw (good.possible, free) refl)
object_made_sound false Evaluated mark type o s h f good =
    let free : is_function (form_of_type o.type) ≡ false = good.same_kind ∙ f in
    (record { sound = h; kept = all_kept s.scopes.structs }, rw (good.values, good.possible, free) refl)
object_made_sound false Unevaluated mark type o s h f good =
    let free : is_function (form_of_type o.type) ≡ false = good.same_kind ∙ f in
    (record { sound = h; kept = all_kept s.scopes.structs }, rw (good.values, good.possible, free) refl)

compound_sound : (u : Use) (first : Place) (mark : Mark) (type : CType) (items : GivenItems) (brace : Place) (s : State) → are_sound s.scopes ≡ true →
    is_possible s.scopes.structs type ≡ true → is_function (form_of_type type) ≡ false → TypedItems s.scopes.structs items →
    GivesSound s TypedMeaning (compound_literal u first mark type items brace s)
compound_sound u first mark type items brace s h p f k =
    after (GoodInitialized type) TypedMeaning s (initialized (is_at_file_scope s) first mark.at type (in_braces items brace) s) (object_made (is_at_file_scope s) u mark)
    (initialized_sound (is_at_file_scope s) first mark.at type (in_braces items brace) s h p k) (λ o t later good.
    object_made_sound (is_at_file_scope s) u mark type o t later.sound f good)

not_function : (structs : List Structure) (type : CType) → (is_complete structs type || is_without_length (form_of_type type)) ≡ true → is_function (form_of_type type) ≡ false
not_function structs (typed Void q) h = refl
not_function structs (typed (Integer b) q) h = refl
not_function structs (typed (Enum b d) q) h = refl
not_function structs (typed (Pointer t) q) h = refl
not_function structs (typed (Array t n) q) h = refl
not_function structs (typed (Struct id) q) h = refl
not_function structs (typed (Function t ps v) q) h = cc

pub literal_form : (u : Use) (mark : Mark) (brace : Place) (s : State) (x : Answer Declared) (items : State → Both GivenItems) → GivesSound s PossibleDeclared x →
    ((t : State) → are_sound t.scopes ≡ true → SoundBoth t TypedItems (items t)) →
    GivesSound s TypedMeaning (then_do x (λ d t. unless (first_of_faults (literal_fault t.scopes.structs d.first (declared_type d)) d.fault)
    (with_both (items t) (λ is v. compound_literal u d.first mark (declared_type d) is brace v))))
literal_form u mark brace s x items h k =
    after PossibleDeclared TypedMeaning s x
    (λ d t. unless (first_of_faults (literal_fault t.scopes.structs d.first (declared_type d)) d.fault)
    (with_both (items t) (λ is v. compound_literal u d.first mark (declared_type d) is brace v))) h
    (λ d t behind p.
    after_unless (SoundBoth t TypedMeaning) (first_of_faults (literal_fault t.scopes.structs d.first (declared_type d)) d.fault)
    (with_both (items t) (λ is v. compound_literal u d.first mark (declared_type d) is brace v)) (λ n.
    let inner = k t behind.sound in
    let free = not_function t.scopes.structs (declared_type d)
    (wanted (is_complete t.scopes.structs (declared_type d) || is_without_length (form_of_type (declared_type d))) d.first 22
    (former_none (literal_fault t.scopes.structs d.first (declared_type d)) d.fault n)) in
    let type = p (latter_none (literal_fault t.scopes.structs d.first (declared_type d)) d.fault n) in
    from_before TypedMeaning t (items t).state (compound_literal u d.first mark (declared_type d) (items t).made brace (items t).state) inner.0
    (compound_sound u d.first mark (declared_type d) (items t).made brace (items t).state inner.0.sound (inner.0.kept.possible (declared_type d) type) free inner.1)))
