-- Calls of functions that the unit declares and doesn't define (ISO/IEC 9899:2024, 5.1.2.4): what they are
-- handed, what they release, what they answer, and the event that each makes.
use Rattle.std.specs.Prelude.{ℕ, zero, suc, ℤ, pos, ◌+ℤ◌, Bool, true, false, ◌&&◌, List, [], ◌∷◌, ◌++◌, Option, Some, None, Result, Ok, Err, if◌then◌else◌, unsigned_abs, codes}
use Rattle.std.specs.Ordering.{int_eq}
use Rattle.std.specs.Str.{bytes_eq}
use Rattle.cake_base.specs.declared.places.Place.{Place}
use Rattle.model_types.specs.declared.numbers.Basic.{Basic}
use Rattle.model_types.specs.declared.numbers.Basic.TheVariants.{Bool as bool, UnsignedChar}
use Rattle.model_types.specs.declared.outcomes.Cause.{Cause}
use Rattle.model_types.specs.declared.outcomes.Cause.TheVariants.{Outside as OutsideCause, Kind}
use Rattle.model_types.specs.Operations.{convert}
use Rattle.model_runs.specs.Memory.{Block, Handle, HandleOf, Number, Null, Address, Value, Missing, Single, Contents, Memory, contents_of, with_block, fresh}
use Rattle.model_types.specs.Shapes.{IntegerShape}
use Rattle.model_runs.specs.Loads.{load}
use Rattle.model_runs.specs.Accesses.{is_outside, release_at}
use Rattle.model_runs.specs.Run.{Argument, Integer, NullPointer, HandleNumber, HandleOf as HandleOfObject, StringAt, Goes, Leaves, Act, ◌▷◌, just, ends, unless_undefined}

-- a value that an outside function is handed, whether a string is read at it, and whether it is released
pub record Passed : Type 0 where
  pub value : Value
  pub is_text : Bool
  pub is_owner : Bool

-- what an outside function answers: nothing, an integer, a handle, which the caller may own, or anything
-- else, which no run has
pub data Answering : Type 0 where
  NoAnswer : Answering
  IntegerAnswer : (basic : Basic) → Answering
  HandleAnswer : (owned : Bool) → Answering
  OtherAnswer : Answering

-- what becomes of a value that is handed out: it is shown as it is, or a string is read at it, or the run
-- leaves
pub data Handed : Type 0 where
  Shown : (argument : Argument) → Handed
  TextAt : (block : Block) (offset : ℤ) → Handed
  Refused : Handed

abbrev pub text_or_refused : (is_text : Bool) → Block → ℤ → Handed
text_or_refused is_text block offset = if is_text && (if is_outside block then false else true) then TextAt block offset else Refused

abbrev pub handed_pointer : (is_text : Bool) → Block → ℤ → Handed
handed_pointer is_text (Handle n) offset = if int_eq offset (pos 0) then Shown (HandleNumber n) else text_or_refused is_text (Handle n) offset
handed_pointer is_text (HandleOf name) offset = if int_eq offset (pos 0) then Shown (HandleOfObject name) else text_or_refused is_text (HandleOf name) offset
handed_pointer is_text block offset = text_or_refused is_text block offset

abbrev pub handed : (is_text : Bool) → Value → Handed
handed is_text (Single (Number value)) = Shown (Integer value)
handed is_text (Single Null) = Shown NullPointer
handed is_text (Single (Address block offset)) = handed_pointer is_text block offset
handed is_text _ = Refused

abbrev pub before : Handed → Option (List Handed) → Option (List Handed)
before Refused others = None
before _ None = None
before first (Some others) = Some (first ∷ others)

-- all arguments, where none is refused
abbrev pub all_handed : List Passed → Option (List Handed)
all_handed [] = Some []
all_handed (passed ∷ others) = before (handed passed.is_text passed.value) (all_handed others)

abbrev pub byte_before : ℕ → Result (List ℕ) Cause → Result (List ℕ) Cause
byte_before byte (Ok bytes) = Ok (byte ∷ bytes)
byte_before byte (Err cause) = Err cause

-- a byte, and those behind it up to the first zero
abbrev pub text_by : Result Value Cause → (ℤ → Result (List ℕ) Cause) → (offset : ℤ) → Result (List ℕ) Cause
text_by (Err cause) rest offset = Err cause
text_by (Ok (Single (Number (pos zero)))) rest offset = Ok []
text_by (Ok (Single (Number value))) rest offset = byte_before (unsigned_abs value) (rest (offset +ℤ pos 1))
text_by (Ok _) rest offset = Err Kind

-- the string at a byte of a block, of which at most so many bytes are left
abbrev pub text_at : (bound : ℕ) → Memory → Block → (offset : ℤ) → Result (List ℕ) Cause
text_at zero memory block offset = Err OutsideCause
text_at (suc bound) memory block offset = text_by (load memory (IntegerShape UnsignedChar) block offset) (text_at bound memory block) offset

abbrev pub block_size : Option Contents → ℕ
block_size None = 0
block_size (Some contents) = contents.size

abbrev pub text_of : Option Place → Block → (offset : ℤ) → Act (List ℕ)
text_of place block offset = λ s. unless_undefined place (text_at (suc (block_size (contents_of s.memory block))) s.memory block offset) s

-- 1. strings are read, from the left
abbrev pub shown : Option Place → Handed → Act Argument
shown place (Shown argument) = just argument
shown place Refused = ends Leaves
shown place (TextAt block offset) = text_of place block offset ▷ (λ bytes. just (StringAt bytes))

abbrev pub all_shown : Option Place → List Handed → Act (List Argument)
all_shown place [] = just []
all_shown place (first ∷ others) = shown place first ▷ (λ argument. all_shown place others ▷ (λ arguments. just (argument ∷ arguments)))

abbrev pub released_value : Option Place → Value → Act (Unit {0})
released_value place (Single scalar) = release_at place scalar
released_value place _ = just tt

abbrev pub nothing : Act (Unit {0})
nothing = just tt

-- 2. owners are released, from the left
abbrev pub owners_released : Option Place → List Passed → Act (Unit {0})
owners_released place [] = just tt
owners_released place (passed ∷ others) =
    (if passed.is_owner then released_value place passed.value else nothing) ▷ (λ u. owners_released place others)

abbrev pub first_of_world : List ℤ → ℤ
first_of_world [] = pos 0
first_of_world (answer ∷ answers) = answer

abbrev pub rest_of_world : List ℤ → List ℤ
rest_of_world [] = []
rest_of_world (answer ∷ answers) = answers

-- the next answer of the world, which is 0 past its end
abbrev pub take_answer : Act ℤ
take_answer = λ s. Goes (first_of_world s.world) (record s { world = rest_of_world s.world })

-- a block for a new handle
abbrev pub handle_contents : (owned : Bool) → Contents
handle_contents owned = record (fresh 0) { owned = owned }

abbrev pub new_handle : (owned : Bool) → Act Value
new_handle owned = λ s. Goes (Single (Address (Handle s.handles) (pos 0))) (record s {
  memory = with_block s.memory (Handle s.handles) (handle_contents owned);
  handles = suc s.handles;
})

-- an integer as a result: for bool, modulo 256, and 1 where that isn't 0
abbrev pub integer_result : Basic → ℤ → Value
integer_result bool answer = Single (Number (convert bool (convert UnsignedChar answer)))
integer_result basic answer = Single (Number (convert basic answer))

abbrev pub null_value : Value
null_value = Single Null

-- the value of a call, by the answer that was taken
abbrev pub result_of : Answering → ℤ → Act Value
result_of NoAnswer answer = just Missing
result_of (IntegerAnswer basic) answer = just (integer_result basic answer)
result_of (HandleAnswer owned) answer = if int_eq answer (pos 0) then just null_value else new_handle owned
result_of OtherAnswer answer = ends Leaves

-- 4. an event is made
abbrev pub note : List ℕ → List Argument → Option ℤ → Act (Unit {0})
note name arguments answer = λ s. Goes tt (record s { events = s.events ++ record { name = name; arguments = arguments; answer = answer } ∷ [] })

-- 3. the answer is taken, where there is one
abbrev pub answered : List ℕ → List Argument → Answering → Act Value
answered name arguments NoAnswer = note name arguments None ▷ (λ u. just Missing)
answered name arguments answering =
    take_answer ▷ (λ answer. result_of answering answer ▷ (λ value. note name arguments (Some answer) ▷ (λ u. just value)))

abbrev pub with_handed : Option Place → List ℕ → List Passed → Answering → Option (List Handed) → Act Value
with_handed place name passed OtherAnswer handed_out = ends Leaves
with_handed place name passed answering None = ends Leaves
with_handed place name passed answering (Some handed_out) =
    all_shown place handed_out ▷ (λ arguments. owners_released place passed ▷ (λ u. answered name arguments answering))

-- a call of an outside function by its name; `realloc` is left out of memory, and its call leaves before
-- the outside is asked
abbrev pub call_outside : Option Place → (name : List ℕ) → List Passed → Answering → Act Value
call_outside place name passed answering =
    if bytes_eq name (codes "realloc") then ends Leaves else with_handed place name passed answering (all_handed passed)
