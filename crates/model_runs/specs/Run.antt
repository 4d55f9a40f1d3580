-- Runs: what can be seen of them, and how their steps follow one another (ISO/IEC 9899:2024, 5.1.2.4).
use Rattle.std.specs.Prelude.{ℕ, zero, suc, ℤ, Bool, true, false, List, [], Option, Result, Ok, Err}
use Rattle.cake_base.specs.declared.places.Place.{Place}
use Rattle.model_types.specs.declared.outcomes.Cause.{Cause}
use Rattle.model_types.specs.declared.outcomes.Cause.TheVariants.{NoValue, Kind}
use Rattle.model_runs.specs.Memory.{Memory, no_blocks, Value, Missing, Single, StructureValue, Scalar}

-- what an outside function is handed: an integer, a null pointer, a handle, the handle of an outside
-- object, or the string at a pointer
pub data Argument : Type 0 where
  Integer : (value : ℤ) → Argument
  NullPointer : Argument
  HandleNumber : (number : ℕ) → Argument
  HandleOf : (name : List ℕ) → Argument
  StringAt : (bytes : List ℕ) → Argument

-- a call of an outside function, with the integer of the world that it took, where it takes one
pub record Event : Type 0 where
  pub name : List ℕ
  pub arguments : List Argument
  pub answer : Option ℤ

-- a heap block that was taken, with its size, or released
pub data Move : Type 0 where
  Took : (number size : ℕ) → Move
  Freed : (number : ℕ) → Move

-- how a run ends; Out where it wants a turn and has none left. The text's runs know no places
pub data Ending : Type 0 where
  Returned : (value : Value) → Ending
  Exited : (status : ℤ) → Ending
  Aborted : Ending
  Leaves : Ending
  Out : Ending
  Undefined : (cause : Cause) (place : Option Place) → Ending

-- what can be seen of a run
pub record Run : Type 0 where
  pub events : List Event
  pub moves : List Move
  pub ending : Ending

-- what a run has left, and what it has done: turns, the answers of the outside that aren't taken yet,
-- memory, the numbers of the next call, heap block and handle, events and moves
pub record State : Type 0 where
  pub turns : ℕ
  pub world : List ℤ
  pub memory : Memory
  pub calls : ℕ
  pub heaps : ℕ
  pub handles : ℕ
  pub events : List Event
  pub moves : List Move

-- the start of a run with this memory; calls, heap blocks and handles are numbered from 1
abbrev pub start_with : Memory → (turns : ℕ) → (world : List ℤ) → State
start_with memory turns world = record {
  turns = turns;
  world = world;
  memory = memory;
  calls = 1;
  heaps = 1;
  handles = 1;
  events = [];
  moves = [];
}

abbrev pub start : (turns : ℕ) → (world : List ℤ) → State
start turns world = start_with no_blocks turns world

-- a part of a run goes on with a value, or the run ends in it
pub data Step (A : Type 0) : Type 0 where
  Goes : (value : A) (state : State) → Step A
  Ends : (ending : Ending) (state : State) → Step A

-- a part of a run
abbrev pub Act : Type 0 → Type 0
Act A = State → Step A

-- one part after another
abbrev pub follow : {A B : Type 0} → Step A → (A → State → Step B) → Step B
follow (Goes value state) next = next value state
follow (Ends ending state) next = Ends ending state

infixl 20 ◌▷◌
abbrev pub ◌▷◌ : {A B : Type 0} → Act A → (A → Act B) → Act B
first ▷ next = λ s. follow (first s) next

-- a value, without a step
abbrev pub just : {A : Type 0} → A → Act A
just value = λ s. Goes value s

-- the end of the run
abbrev pub ends : {A : Type 0} → Ending → Act A
ends ending = λ s. Ends ending s

-- the value of an operation, or the end of the run at this place
abbrev pub unless_undefined : {A : Type 0} → Option Place → Result A Cause → State → Step A
unless_undefined place (Ok value) state = Goes value state
unless_undefined place (Err cause) state = Ends (Undefined cause place) state

-- takes one of the turns that are left, or ends the run where none is
abbrev pub turn_of : {A : Type 0} → (turns : ℕ) → State → (State → Step A) → Step A
turn_of zero state next = Ends Out state
turn_of (suc turns) state next = next (record state { turns = turns })

abbrev pub turn : {A : Type 0} → State → (State → Step A) → Step A
turn state next = turn_of state.turns state next

abbrev pub take_turn : Act (Unit {0})
take_turn = λ s. turn s (Goes tt)

-- the number of a new call
abbrev pub new_call : Act ℕ
new_call = λ s. Goes s.calls (record s { calls = suc s.calls })

-- one of two parts
abbrev pub choose : {A : Type 0} → Bool → Act A → Act A → Act A
choose true yes_part no_part = yes_part
choose false yes_part no_part = no_part

-- a value that is used: there has to be one
abbrev pub used : Option Place → Value → Act Value
used place Missing = ends (Undefined NoValue place)
used place (Single scalar) = just (Single scalar)
used place (StructureValue cells) = just (StructureValue cells)

-- the scalar of a value that is used
abbrev pub scalar_of : Option Place → Value → Act Scalar
scalar_of place Missing = ends (Undefined NoValue place)
scalar_of place (Single scalar) = just scalar
scalar_of place (StructureValue cells) = ends (Undefined Kind place)

-- how control leaves a statement: by its end, by `break` or `continue`, or with the value of a return
pub data Flow : Type 0 where
  Falls : Flow
  Breaks : Flow
  Continues : Flow
  Gives : (value : Value) → Flow

-- what stands behind a statement, unless control left there
abbrev pub then_do : Flow → Act Flow → Act Flow
then_do Falls rest = rest
then_do flow rest = just flow

-- what follows a round of a loop
abbrev pub then_again : Flow → Act Flow → Act Flow
then_again Falls rest = rest
then_again Continues rest = rest
then_again Breaks rest = just Falls
then_again (Gives value) rest = just (Gives value)

-- a loop, with its first round and the others, each of which takes a turn, and of which there are at most
-- so many
abbrev pub loop : (bound : ℕ) → (first others : Act Flow) → Act Flow
loop zero first others = ends Out
loop (suc bound) first others = take_turn ▷ (λ u. first ▷ (λ flow. then_again flow (loop bound others others)))

-- how control leaves a switch
abbrev pub after_switch : Flow → Flow
after_switch Breaks = Falls
after_switch flow = flow

-- what a call answers: nothing, where control fell off the end of the function
abbrev pub answer_of : Flow → Value
answer_of (Gives value) = value
answer_of _ = Missing

-- what can be seen of the run of an entry
abbrev pub run_of : Step Value → Run
run_of (Goes value state) = record { events = state.events; moves = state.moves; ending = Returned value }
run_of (Ends ending state) = record { events = state.events; moves = state.moves; ending = ending }
