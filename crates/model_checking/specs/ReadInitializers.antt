-- Initializers as they are read, before it is known what they are for (ISO/IEC 9899:2024, 6.7.11): behind a fault nothing
-- is read.
use Rattle.std.specs.Prelude.{ℕ, ℤ, pos, int_lt, nat_abs, Bool, true, false, if◌then◌else◌, List, [], ◌∷◌, Option, Some, None, Ok, Err}
use Rattle.cake_base.specs.declared.places.Place.{Place}
use Rattle.cake_base.specs.declared.rules.Fault.{Fault}
use Rattle.model_grammar.specs.SyntaxForms as syntax
use Rattle.c_tree.specs.SyntaxPlaces.{expr_first}
use Rattle.model_checking.specs.State.{State, Both, both, with_both, Answer, Reached}
use Rattle.model_checking.specs.Meanings.{Meaning, Operand}
use Rattle.model_checking.specs.Parts.{Given, a_value, a_text, in_braces, faulty, GivenStep, to_element, to_no_element, to_member, faulty_index, GivenItems, no_given, more_given}
use Rattle.model_checking.specs.MadeCore.{value_of}
use Rattle.model_checking.specs.Reading.{Ends, as_operand}

-- a value, with the first fault of the bodies of its function literals
abbrev pub ended_value : Operand → State → Reached → Both Given
ended_value o s (Ok t) = both (a_value o.value o.first None) t
ended_value o s (Err later) = both (a_value o.value o.first (Some later)) s

abbrev value_given : Ends → (before : State) → Place → Answer Operand → Both Given
value_given ends before first (Ok o) = ended_value o.made o.state (ends o.state)
value_given ends before first (Err fault) = both (faulty fault first) before

abbrev text_given : (before : State) → List ℕ → Place → Answer Meaning → Both Given
text_given before bytes place (Ok m) = both (a_text before.scopes.ids bytes (value_of m.made) place) m.state
text_given before bytes place (Err fault) = both (faulty fault place) before

-- an initializer without braces: a string that stands alone, or another value
abbrev pub single_given : Ends → (before : State) → syntax.Expr → Answer Meaning → Both Given
single_given ends before (syntax.Text bytes place) answer = text_given before bytes place answer
single_given ends before e answer = value_given ends before (expr_first e) (as_operand e answer)

abbrev mutual
  -- behind it nothing is read: it has a fault, or the bodies of its function literals have one
  pub stops : Given → Bool
  stops (a_value value first None) = false
  stops (a_value value first (Some later)) = true
  stops (a_text id bytes value first) = false
  stops (in_braces items place) = some_stops items
  stops (faulty fault first) = true

  some_stops : GivenItems → Bool
  some_stops no_given = false
  some_stops (more_given steps first others) = if stops first then true else some_stops others

abbrev element_at : (value : ℤ) → Place → GivenStep
element_at value place = if int_lt value (pos 0) then to_no_element place else to_element (nat_abs value) place

abbrev ended_step : ℤ → Place → (s : State) → Reached → Both GivenStep
ended_step value place s (Ok t) = both (element_at value place) t
ended_step value place s (Err later) = both (faulty_index later place) s

abbrev pub element_step : Ends → (before : State) → Place → Answer ℤ → Both GivenStep
element_step ends before place (Ok value) = ended_step value.made place value.state (ends value.state)
element_step ends before place (Err fault) = both (faulty_index fault place) before

-- the designators behind one; nothing is read behind a faulty index
abbrev pub steps_behind : GivenStep → State → (State → Both (List GivenStep)) → Both (List GivenStep)
steps_behind (faulty_index fault place) s others = both (faulty_index fault place ∷ []) s
steps_behind (to_element index place) s others = with_both (others s) (λ steps s. both (to_element index place ∷ steps) s)
steps_behind (to_no_element place) s others = with_both (others s) (λ steps s. both (to_no_element place ∷ steps) s)
steps_behind (to_member name place) s others = with_both (others s) (λ steps s. both (to_member name place ∷ steps) s)

-- the fault of an index
abbrev index_fault : List GivenStep → Option Fault
index_fault [] = None
index_fault (faulty_index fault place ∷ steps) = Some fault
index_fault (to_element index place ∷ steps) = index_fault steps
index_fault (to_no_element place ∷ steps) = index_fault steps
index_fault (to_member name place ∷ steps) = index_fault steps

abbrev item_behind : (stops : Bool) → List GivenStep → Both Given → (State → Both GivenItems) → Both GivenItems
item_behind true steps value others = both (more_given steps value.made no_given) value.state
item_behind false steps value others = with_both (others value.state) (λ items s. both (more_given steps value.made items) s)

abbrev item_valued : List GivenStep → Both Given → (State → Both GivenItems) → Both GivenItems
item_valued steps value others = item_behind (stops value.made) steps value others

abbrev item_by : Option Fault → List GivenStep → State → (State → Both Given) → (State → Both GivenItems) → Both GivenItems
item_by None steps s value others = item_valued steps (value s) others
item_by (Some fault) steps s value others = both (more_given steps (faulty fault fault.place) no_given) s

-- an item of braces, and those behind it
abbrev pub item_given : List GivenStep → State → (State → Both Given) → (State → Both GivenItems) → Both GivenItems
item_given steps s value others = item_by (index_fault steps) steps s value others
