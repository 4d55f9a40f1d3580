-- Loads, stores and releases as parts of a run (ISO/IEC 9899:2024, 6.2.4, 6.3.3.1, 6.5.17). An object of the
-- outside is there only where it holds a handle; any other access to the outside ends the run.
use Rattle.std.specs.Prelude.{ℤ, pos, Bool, true, false, ◌&&◌, not, Option, Some, None, Result, Ok, Err, if◌then◌else◌}
use Rattle.std.specs.Ordering.{int_eq}
use Rattle.cake_base.specs.declared.places.Place.{Place}
use Rattle.model_types.specs.declared.outcomes.Cause.{Cause}
use Rattle.model_types.specs.declared.outcomes.Cause.TheVariants.{BadRelease}
use Rattle.model_runs.specs.Memory.{Block, Outside, Scalar, Number, Null, Address, Code, Value, Single, Contents, Memory, contents_of, with_block}
use Rattle.model_types.specs.Shapes.{Shape, StructShape}
use Rattle.model_runs.specs.Loads.{load}
use Rattle.model_runs.specs.Stores.{store}
use Rattle.model_runs.specs.Run.{Ending, Goes, Undefined, Leaves, Act, ends, just}

-- goes on with this memory
abbrev pub remember : Option Place → Result Memory Cause → Act (Unit {0})
remember place (Ok memory) = λ s. Goes tt (record s { memory = memory })
remember place (Err cause) = ends (Undefined cause place)

abbrev pub is_outside : Block → Bool
is_outside (Outside name) = true
is_outside _ = false

-- a cause that ends the run in a block; of the outside every one makes it leave
abbrev pub cause_in : Block → Option Place → Cause → Ending
cause_in block place cause = if is_outside block then Leaves else Undefined cause place

abbrev pub loaded : Block → Option Place → Result Value Cause → Act Value
loaded block place (Ok value) = just value
loaded block place (Err cause) = ends (cause_in block place cause)

abbrev pub is_structure : Shape → Bool
is_structure (StructShape size) = true
is_structure shape = false

-- a load; of an object of the outside the handle that it holds is all that is loaded
abbrev pub load_from : Option Place → Shape → Block → (offset : ℤ) → Act Value
load_from place shape block offset =
    if is_outside block && is_structure shape then ends Leaves else (λ s. loaded block place (load s.memory shape block offset) s)

-- a store, of which there is none to the outside
abbrev pub store_to : Option Place → Shape → Block → (offset : ℤ) → Value → Act (Unit {0})
store_to place shape block offset value =
    if is_outside block then ends Leaves else (λ s. remember place (store s.memory shape block offset value) s)

-- the zeros of an object of static storage stay where it gets the value 0 or null
abbrev pub is_zero_value : Value → Bool
is_zero_value (Single (Number value)) = int_eq value (pos 0)
is_zero_value (Single Null) = true
is_zero_value value = false

abbrev pub kept : Act (Unit {0})
kept = λ s. Goes tt s

-- the initial value of a part of it
abbrev pub place_to : Option Place → Shape → Block → (offset : ℤ) → Value → Act (Unit {0})
place_to place shape block offset value = if is_zero_value value then kept else store_to place shape block offset value

-- contents that are released
abbrev pub released : Contents → Contents
released contents = record contents { live = false; released = true }

-- memory without what an owner holds, which has to be the start of a block that is owned and not released
abbrev pub release_block : Memory → Block → (offset : ℤ) → Option Contents → Result Memory Cause
release_block memory block offset None = Err BadRelease
release_block memory block offset (Some contents) =
    if contents.owned && not contents.released && int_eq offset (pos 0)
    then Ok (with_block memory block (released contents))
    else Err BadRelease

-- the release of what a pointer owns; null owns nothing
abbrev pub release : Memory → Scalar → Result Memory Cause
release memory Null = Ok memory
release memory (Address block offset) = release_block memory block offset (contents_of memory block)
release memory (Number value) = Err BadRelease
release memory (Code function) = Err BadRelease

abbrev pub release_at : Option Place → Scalar → Act (Unit {0})
release_at place scalar = λ s. remember place (release s.memory scalar) s
