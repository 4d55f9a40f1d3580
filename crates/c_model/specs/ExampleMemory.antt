-- Small blocks, and what is read of them and done with them.
use Rattle.std.specs.Prelude.{ℕ, pos, true, false, [], ◌∷◌, codes, Some, None, Result, Ok, Err}
use Rattle.model_types.specs.declared.numbers.Basic.TheVariants.{Char, Int}
use Rattle.model_types.specs.declared.outcomes.Cause.{Cause}
use Rattle.model_runs.specs.Memory.{Numbered, Block, Global, Heap, Address, Value, Single, Contents, Memory, fresh, zeroed}
use Rattle.model_types.specs.Shapes.{Shape, IntegerShape}
use Rattle.model_runs.specs.Stores.{store}
use Rattle.model_runs.specs.Outside.{Passed, HandleAnswer, IntegerAnswer, call_outside}
use Rattle.model_runs.specs.SourceStart.{text_contents}
use Rattle.c_model.specs.ExampleParts.{int_value}
use Rattle.model_runs.specs.Run.{Run, Event, StringAt, HandleNumber, Act, ◌▷◌, run_of, start_with}

abbrev pub int_shape : Shape
int_shape = IntegerShape Int

abbrev pub char_shape : Shape
char_shape = IntegerShape Char

abbrev pub heap_block : Block
heap_block = Heap 1

-- memory of one block
abbrev pub holding : Contents → Memory
holding contents = (heap_block, contents) ∷ []

abbrev pub memory_or : Result Memory Cause → Memory
memory_or (Ok memory) = memory
memory_or (Err cause) = []

-- 5 as an int at its beginning
abbrev pub with_five : Memory
with_five = memory_or (store (holding (fresh 8)) int_shape heap_block (pos 0) (int_value 5))

-- zeros, with 7 as a char at byte 1
abbrev pub zeros_with_seven : Memory
zeros_with_seven = memory_or (store (holding (zeroed 8)) char_shape heap_block (pos 1) (int_value 7))

-- two strings
abbrev pub with_texts : Memory
with_texts = (Global (Numbered 1), text_contents (codes "a.c")) ∷ (Global (Numbered 2), text_contents (codes "r")) ∷ []

abbrev pub text : ℕ → Passed
text id = record { value = Single (Address (Global (Numbered id)) (pos 0)); is_text = true; is_owner = false }

abbrev pub owner : Value → Passed
owner v = record { value = v; is_text = false; is_owner = true }

abbrev pub open_file : Act Value
open_file = call_outside None (codes "fopen") (text 1 ∷ text 2 ∷ []) (HandleAnswer true)

abbrev pub close_file : Value → Act Value
close_file v = call_outside None (codes "fclose") (owner v ∷ []) (IntegerAnswer Int)

-- opens a file, and closes it once, or twice
abbrev pub closed_once : Run
closed_once = run_of ((open_file ▷ close_file) (start_with with_texts 0 (pos 9 ∷ [])))

abbrev pub closed_twice : Run
closed_twice = run_of ((open_file ▷ (λ v. close_file v ▷ (λ w. close_file v))) (start_with with_texts 0 (pos 9 ∷ [])))

abbrev pub opened : Event
opened = record { name = codes "fopen"; arguments = StringAt (codes "a.c") ∷ StringAt (codes "r") ∷ []; answer = Some (pos 9) }

abbrev pub closed : Event
closed = record { name = codes "fclose"; arguments = HandleNumber 1 ∷ []; answer = Some (pos 0) }
