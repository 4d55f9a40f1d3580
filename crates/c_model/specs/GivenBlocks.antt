-- Runs from given blocks: any external function is an entry, and gets integers, null and pointers into blocks
-- that were there before.
use Rattle.std.specs.Prelude.{◌≡◌, ◌⊎◌, ℕ, ℤ, List, [], ◌∷◌, ◌++◌, IsTrue}
use Rattle.model_types.specs.Operations.{fits}
use Rattle.model_types.specs.Types.{CType, Form, Integer, Enum, Pointer, Struct, Function, Types, no_types, more_types, form_of_type}
use Rattle.model_runs.specs.Memory.{Given, Scalar, Number, Null, Address, Content, Holds, Zeroes, Cell, Value, Single, StructureValue, Memory, contents_of}
use Rattle.model_runs.specs.Run.{Step, Goes, Ends, start_with, run_of}
use Rattle.model_core.specs.CoreTypes.{result_of_form}
use Rattle.model_core.specs.Core as source
use Rattle.model_runs.specs.SourceStart as source_start
use Rattle.model_runs.specs.SourceRun as source_run
use Rattle.model_core.specs.Program89 as target
use Rattle.model_c89.specs.TargetStart as target_start
use Rattle.model_c89.specs.TargetRun as target_run
use Rattle.c_model.specs.Seen.{Seen, SeenAs, Other, cells_or_none, SameBytes}
use Rattle.c_model.specs.Translation.{Defines23, IsUndefined}

-- a scalar of given blocks: an integer, null or a pointer into one of them
abbrev pub IsGiven : Scalar → Type 0
IsGiven (Number value) = Unit {0}
IsGiven Null = Unit {0}
IsGiven (Address (Given number) offset) = Unit {0}
IsGiven scalar = ⊥

abbrev pub IsGivenContent : Content → Type 0
IsGivenContent Zeroes = Unit {0}
IsGivenContent (Holds scalar) = IsGiven scalar

abbrev pub AreGivenCells : List Cell → Type 0
AreGivenCells [] = Unit {0}
AreGivenCells (cell ∷ cells) = IsGivenContent cell.content × AreGivenCells cells

-- given blocks, by their numbers
abbrev pub AreGiven : Memory → Type 0
AreGiven [] = Unit {0}
AreGiven (entry ∷ memory) = ((number : ℕ) × (entry.0 ≡ Given number)) × AreGivenCells entry.1.cells × AreGiven memory

-- an argument of a type
abbrev pub IsArgument : Form → Value → Type 0
IsArgument (Integer basic) (Single (Number value)) = IsTrue (fits basic value)
IsArgument (Enum basic order) (Single (Number value)) = IsTrue (fits basic value)
IsArgument (Pointer type) (Single Null) = Unit {0}
IsArgument (Pointer type) (Single (Address (Given number) offset)) = Unit {0}
IsArgument (Struct id) (StructureValue cells) = AreGivenCells cells
IsArgument form value = ⊥

abbrev pub AreArguments : Types → List Value → Type 0
AreArguments no_types [] = Unit {0}
AreArguments (more_types type types) (v ∷ vs) = IsArgument (form_of_type type) v × AreArguments types vs
AreArguments types vs = ⊥

abbrev pub TakesArguments : Form → List Value → Type 0
TakesArguments (Function result parameters variadic) vs = AreArguments parameters vs
TakesArguments form vs = ⊥

-- a scalar of given blocks is seen as it is, and a pointer elsewhere as Other
abbrev pub seen : Scalar → Seen
seen (Number value) = SeenAs (Number value)
seen Null = SeenAs Null
seen (Address (Given number) offset) = SeenAs (Address (Given number) offset)
seen scalar = Other

-- each given block has the same bytes
abbrev pub SameCells : (memory other : Memory) → Type 0
SameCells memory other = (number : ℕ) →
    SameBytes seen seen (cells_or_none (contents_of memory (Given number))) (cells_or_none (contents_of other (Given number)))

-- two results of a type: pointers that are seen as one, structures with the same bytes, and any other value
-- as it is
abbrev pub SameResult : Form → Value → Value → Type 0
SameResult (Pointer type) (Single scalar) (Single other) = seen scalar ≡ seen other
SameResult (Struct id) (StructureValue cells) (StructureValue others) = SameBytes seen seen cells others
SameResult form value other = value ≡ other

-- two runs end alike: both return, with the same result and the same cells in given blocks, but not the
-- marks of the blocks; or both in the same other way
abbrev pub SameEnd : (result : Form) → Step Value → Step Value → Type 0
SameEnd result (Goes value s) (Goes other t) = SameResult result value other × SameCells s.memory t.memory
SameEnd result (Ends ending s) (Ends other t) = ending ≡ other
SameEnd result step other = ⊥

pub record SameStep (result : Form) (step other : Step Value) : Type 0 where
  pub events : (run_of step).events ≡ (run_of other).events
  pub moves : (run_of step).moves ≡ (run_of other).moves
  pub end : SameEnd result step other

-- what a function of this type gives
abbrev pub result_form : CType → Form
result_form type = form_of_type (result_of_form (form_of_type type))

-- the runs from given blocks
abbrev pub ended_from23 : (n : ℕ) → source.Core → (given : Memory) → (entry : List ℕ) → (arguments : List Value) → (world : List ℤ) → Step Value
ended_from23 n core given entry arguments world =
    source_run.run_from n core entry arguments (start_with (given ++ source_start.start_memory core) n world)

abbrev pub ended_from89 : (n : ℕ) → target.Program → (given : Memory) → (entry : List ℕ) → (arguments : List Value) → (world : List ℤ) → Step Value
ended_from89 n program given entry arguments world =
    target_run.run_from n program entry arguments (start_with (given ++ target_start.start_memory program) n world)

-- for every bound on turns, external function, given blocks, arguments and world the program runs as the
-- unit, wherever the unit's run has a meaning
abbrev pub SameFrom : source.Core → target.Program → Type 0
SameFrom core program =
    (n : ℕ) (entry : List ℕ) (type : CType) (given : Memory) (arguments : List Value) (world : List ℤ) →
    Defines23 core entry type → AreGiven given → TakesArguments (form_of_type type) arguments →
    IsUndefined (run_of (ended_from23 n core given entry arguments world))
    ⊎ SameStep (result_form type) (ended_from23 n core given entry arguments world) (ended_from89 n program given entry arguments world)
