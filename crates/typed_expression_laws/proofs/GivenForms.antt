-- What is read of initializers is typed: each value can be an operand.
use Rattle.std.proofs.Common.{◌≡◌, refl, ℕ, ℤ, pos, int_lt, nat_abs, Bool, true, false, ◌&&◌, if◌then◌else◌, List, [], ◌∷◌, Option, Some, None, Ok, Err}
use Rattle.std.specs.Result.{IfOk}
use Rattle.std.proofs.lemmas.Bool.{and_parts, and_from}
use Rattle.cake_base.specs.declared.places.Place.{Place}
use Rattle.cake_base.specs.declared.rules.Fault.{Fault}
use Rattle.model_types.specs.Structures.{Structure}
use Rattle.model_grammar.specs.SyntaxForms as syntax
use Rattle.c_tree.specs.SyntaxPlaces.{expr_first}
use Rattle.model_checking.specs.State.{State, Both, both, with_both, Answer, Reached}
use Rattle.model_checking.specs.Meanings.{Meaning, Operand}
use Rattle.model_checking.specs.Parts.{Given, a_value, a_text, in_braces, faulty, GivenStep, to_element, to_no_element, to_member, faulty_index, GivenItems, no_given, more_given}
use Rattle.model_checking.specs.Reading.{Ends, waits, as_operand, as_constant}
use Rattle.model_checking.specs.ReadInitializers.{single_given, element_step, steps_behind, item_given}
use Rattle.typed_rule_laws.specs.TypedMeanings.{is_typed_operand}
use Rattle.typed_rule_laws.proofs.Values.{value_is_operand}
use Rattle.typed_walk_laws.specs.SoundScopes.{are_sound}
use Rattle.typed_walk_laws.specs.Behind.{TypesKept, Behind, SoundBoth, GivesSound}
use Rattle.typed_walk_laws.proofs.Walks.{Wanted, TypedMeaning, TypedOperand, Anything, behind_here, behind_both, operand_given}
use Rattle.typed_walk_laws.proofs.KeptMeanings.{operand_kept}
use Rattle.typed_expression_laws.proofs.SpecifierForms.{constant_form}

abbrev mutual
  pub is_typed_given : List Structure → Given → Bool
  is_typed_given structs (a_value value first later) = is_typed_operand structs value
  is_typed_given structs (a_text id bytes value first) = is_typed_operand structs value
  is_typed_given structs (in_braces items place) = are_typed_items structs items
  is_typed_given structs (faulty fault first) = true

  pub are_typed_items : List Structure → GivenItems → Bool
  are_typed_items structs no_given = true
  are_typed_items structs (more_given steps first others) = is_typed_given structs first && are_typed_items structs others

abbrev pub TypedGiven : List Structure → Given → Type 0
TypedGiven structs given = is_typed_given structs given ≡ true

abbrev pub TypedItems : List Structure → GivenItems → Type 0
TypedItems structs items = are_typed_items structs items ≡ true

mutual
  pub given_kept : (a b : List Structure) (given : Given) → TypesKept a b → TypedGiven a given → TypedGiven b given
  given_kept a b (a_value value first later) k h = operand_kept a b value k h
  given_kept a b (a_text id bytes value first) k h = operand_kept a b value k h
  given_kept a b (in_braces items place) k h = items_kept a b items k h
  given_kept a b (faulty fault first) k h = refl

  pub items_kept : (a b : List Structure) (items : GivenItems) → TypesKept a b → TypedItems a items → TypedItems b items
  items_kept a b no_given k h = refl
  items_kept a b (more_given steps first others) k h =
      let parts = and_parts (is_typed_given a first) (are_typed_items a others) h in
      and_from (is_typed_given b first) (are_typed_items b others) (given_kept a b first k parts.0) (items_kept a b others k parts.1)

-- ---- parts that are never broken

pub both_after : {A B : Type 0} (P : Wanted A) (Q : Wanted B) (s : State) (x : Both A) (go : A → State → Both B) → SoundBoth s P x →
    ((t : State) → Behind s t → P t.scopes.structs x.made → SoundBoth t Q (go x.made t)) → SoundBoth s Q (with_both x go)
both_after P Q s x go h k =
    let next = k x.state h.0 h.1 in
    (behind_both s x.state (go x.made x.state).state h.0 next.0, next.1)

-- what is done at the end of a full expression leaves what is declared sound
abbrev pub EndsSound : Ends → Type 0
EndsSound ends = (s : State) → are_sound s.scopes ≡ true → IfOk (ends s) (λ t. Behind s t)

pub waits_sound : EndsSound waits
waits_sound s h = behind_here s h

-- ---- a value

abbrev ended_value : Operand → State → Reached → Both Given
ended_value o s (Ok t) = both (a_value o.value o.first None) t
ended_value o s (Err later) = both (a_value o.value o.first (Some later)) s

ended_sound : (o : Operand) (before s : State) (r : Reached) → Behind before s → TypedOperand s.scopes.structs o → IfOk r (λ t. Behind s t) →
    SoundBoth before TypedGiven (ended_value o s r)
ended_sound o before s (Ok t) b h k = (behind_both before s t b k, operand_kept s.scopes.structs t.scopes.structs o.value k.kept h)
ended_sound o before s (Err later) b h k = (b, h)

abbrev value_given : Ends → (before : State) → Place → Answer Operand → Both Given
value_given ends before first (Ok o) = ended_value o.made o.state (ends o.state)
value_given ends before first (Err fault) = both (faulty fault first) before

value_sound : (r : Ends) (s : State) (first : Place) (x : Answer Operand) → EndsSound r → are_sound s.scopes ≡ true → GivesSound s TypedOperand x →
    SoundBoth s TypedGiven (value_given r s first x)
value_sound r s first (Ok o) e h k = ended_sound o.made s o.state (r o.state) k.0 k.1 (e o.state k.0.sound)
value_sound r s first (Err fault) e h k = (behind_here s h, refl)

pub other_sound : (e : syntax.Expr) (r : Ends) (s : State) (x : Answer Meaning) → EndsSound r → are_sound s.scopes ≡ true → GivesSound s TypedMeaning x →
    SoundBoth s TypedGiven (value_given r s (expr_first e) (as_operand e x))
other_sound e r s x n h k = value_sound r s (expr_first e) (as_operand e x) n h (operand_given e s x k)

text_sound : (s : State) (bytes : List ℕ) (place : Place) (r : Ends) (x : Answer Meaning) → are_sound s.scopes ≡ true → GivesSound s TypedMeaning x →
    SoundBoth s TypedGiven (single_given r s (syntax.Text bytes place) x)
text_sound s bytes place r (Ok m) h k = (k.0, value_is_operand m.state.scopes.structs m.made k.1)
text_sound s bytes place r (Err fault) h k = (behind_here s h, refl)

pub single_sound : (e : syntax.Expr) (r : Ends) (s : State) (x : Answer Meaning) → EndsSound r → are_sound s.scopes ≡ true → GivesSound s TypedMeaning x →
    SoundBoth s TypedGiven (single_given r s e x)
single_sound (syntax.Text bytes place) r s x n h k = text_sound s bytes place r x h k
single_sound (syntax.Identifier name) r s x n h k = other_sound (syntax.Identifier name) r s x n h k
single_sound (syntax.Constant value basic place) r s x n h k = other_sound (syntax.Constant value basic place) r s x n h k
single_sound (syntax.Truth value place) r s x n h k = other_sound (syntax.Truth value place) r s x n h k
single_sound (syntax.Nullptr place) r s x n h k = other_sound (syntax.Nullptr place) r s x n h k
single_sound (syntax.Parenthesized inner place) r s x n h k = other_sound (syntax.Parenthesized inner place) r s x n h k
single_sound (syntax.CompoundLiteral name values place) r s x n h k = other_sound (syntax.CompoundLiteral name values place) r s x n h k
single_sound (syntax.FunctionLiteral name body place) r s x n h k = other_sound (syntax.FunctionLiteral name body place) r s x n h k
single_sound (syntax.Index array at place) r s x n h k = other_sound (syntax.Index array at place) r s x n h k
single_sound (syntax.Call function arguments place) r s x n h k = other_sound (syntax.Call function arguments place) r s x n h k
single_sound (syntax.Member structure name place) r s x n h k = other_sound (syntax.Member structure name place) r s x n h k
single_sound (syntax.Arrow pointer name place) r s x n h k = other_sound (syntax.Arrow pointer name place) r s x n h k
single_sound (syntax.Step op side object place) r s x n h k = other_sound (syntax.Step op side object place) r s x n h k
single_sound (syntax.Unary op e place) r s x n h k = other_sound (syntax.Unary op e place) r s x n h k
single_sound (syntax.SizeofExpr e place) r s x n h k = other_sound (syntax.SizeofExpr e place) r s x n h k
single_sound (syntax.SizeofType name place) r s x n h k = other_sound (syntax.SizeofType name place) r s x n h k
single_sound (syntax.Alignof name place) r s x n h k = other_sound (syntax.Alignof name place) r s x n h k
single_sound (syntax.Cast name e place) r s x n h k = other_sound (syntax.Cast name e place) r s x n h k
single_sound (syntax.Binary op left right place) r s x n h k = other_sound (syntax.Binary op left right place) r s x n h k
single_sound (syntax.Logic op left right place) r s x n h k = other_sound (syntax.Logic op left right place) r s x n h k
single_sound (syntax.Conditional condition first second place) r s x n h k = other_sound (syntax.Conditional condition first second place) r s x n h k
single_sound (syntax.Assign left right place) r s x n h k = other_sound (syntax.Assign left right place) r s x n h k
single_sound (syntax.AssignBy op left right place) r s x n h k = other_sound (syntax.AssignBy op left right place) r s x n h k
single_sound (syntax.Comma first second place) r s x n h k = other_sound (syntax.Comma first second place) r s x n h k

-- ---- designators

abbrev element_at : (value : ℤ) → Place → GivenStep
element_at value place = if int_lt value (pos 0) then to_no_element place else to_element (nat_abs value) place

abbrev ended_step : ℤ → Place → (s : State) → Reached → Both GivenStep
ended_step value place s (Ok t) = both (element_at value place) t
ended_step value place s (Err later) = both (faulty_index later place) s

ended_step_sound : (value : ℤ) (place : Place) (before s : State) (r : Reached) → Behind before s → IfOk r (λ t. Behind s t) →
    SoundBoth before Anything (ended_step value place s r)
ended_step_sound value place before s (Ok t) b k = (behind_both before s t b k, refl)
ended_step_sound value place before s (Err later) b k = (b, refl)

element_by : (r : Ends) (s : State) (place : Place) (x : Answer ℤ) → EndsSound r → are_sound s.scopes ≡ true → GivesSound s Anything x →
    SoundBoth s Anything (element_step r s place x)
element_by r s place (Ok value) n h k = ended_step_sound value.made place s value.state (r value.state) k.0 (n value.state k.0.sound)
element_by r s place (Err fault) n h k = (behind_here s h, refl)

pub element_sound : (e : syntax.Expr) (r : Ends) (s : State) (place : Place) (x : Answer Meaning) → EndsSound r → are_sound s.scopes ≡ true → GivesSound s TypedMeaning x →
    SoundBoth s Anything (element_step r s place (as_constant e x))
element_sound e r s place x n h k = element_by r s place (as_constant e x) n h (constant_form e s x k)

pub steps_behind_sound : (step : GivenStep) (s : State) (others : State → Both (List GivenStep)) → are_sound s.scopes ≡ true → SoundBoth s Anything (others s) →
    SoundBoth s Anything (steps_behind step s others)
steps_behind_sound (faulty_index fault place) s others h k = (behind_here s h, refl)
steps_behind_sound (to_element index place) s others h k = (k.0, refl)
steps_behind_sound (to_no_element place) s others h k = (k.0, refl)
steps_behind_sound (to_member name place) s others h k = (k.0, refl)

-- ---- an item of braces, and those behind it

abbrev item_behind : (stops : Bool) → List GivenStep → Both Given → (State → Both GivenItems) → Both GivenItems
item_behind true steps value others = both (more_given steps value.made no_given) value.state
item_behind false steps value others = with_both (others value.state) (λ items s. both (more_given steps value.made items) s)

one_more : (a b : List Structure) (steps : List GivenStep) (first : Given) (others : GivenItems) → TypesKept a b → TypedGiven a first → TypedItems b others →
    TypedItems b (more_given steps first others)
one_more a b steps first others k h l = and_from (is_typed_given b first) (are_typed_items b others) (given_kept a b first k h) l

behind_sound : (stops : Bool) (steps : List GivenStep) (s : State) (value : Both Given) (others : State → Both GivenItems) → SoundBoth s TypedGiven value →
    SoundBoth value.state TypedItems (others value.state) → SoundBoth s TypedItems (item_behind stops steps value others)
behind_sound true steps s value others h k = (h.0, and_from (is_typed_given value.state.scopes.structs value.made) true h.1 refl)
behind_sound false steps s value others h k =
    let last = others value.state in (
      behind_both s value.state last.state h.0 k.0,
      one_more value.state.scopes.structs last.state.scopes.structs steps value.made last.made k.0.kept h.1 k.1,
    )

abbrev mutual
  stops : Given → Bool
  stops (a_value value first None) = false
  stops (a_value value first (Some later)) = true
  stops (a_text id bytes value first) = false
  stops (in_braces items place) = some_stops items
  stops (faulty fault first) = true

  some_stops : GivenItems → Bool
  some_stops no_given = false
  some_stops (more_given steps first others) = if stops first then true else some_stops others

abbrev index_fault : List GivenStep → Option Fault
index_fault [] = None
index_fault (faulty_index fault place ∷ steps) = Some fault
index_fault (to_element index place ∷ steps) = index_fault steps
index_fault (to_no_element place ∷ steps) = index_fault steps
index_fault (to_member name place ∷ steps) = index_fault steps

abbrev item_valued : List GivenStep → Both Given → (State → Both GivenItems) → Both GivenItems
item_valued steps value others = item_behind (stops value.made) steps value others

abbrev item_by : Option Fault → List GivenStep → State → (State → Both Given) → (State → Both GivenItems) → Both GivenItems
item_by None steps s value others = item_valued steps (value s) others
item_by (Some fault) steps s value others = both (more_given steps (faulty fault fault.place) no_given) s

by_sound : (f : Option Fault) (steps : List GivenStep) (s : State) (value : State → Both Given) (others : State → Both GivenItems) →
    are_sound s.scopes ≡ true → SoundBoth s TypedGiven (value s) → SoundBoth (value s).state TypedItems (others (value s).state) →
    SoundBoth s TypedItems (item_by f steps s value others)
by_sound None steps s value others h k l = behind_sound (stops (value s).made) steps s (value s) others k l
by_sound (Some fault) steps s value others h k l = (behind_here s h, refl)

pub item_sound : (steps : List GivenStep) (s : State) (value : State → Both Given) (others : State → Both GivenItems) → are_sound s.scopes ≡ true →
    SoundBoth s TypedGiven (value s) → SoundBoth (value s).state TypedItems (others (value s).state) → SoundBoth s TypedItems (item_given steps s value others)
item_sound steps s value others h k l = by_sound (index_fault steps) steps s value others h k l
