-- What the external objects of a unit and of a text begin with, before an entry is called (ISO/IEC 9899:2024,
-- 5.1.2.1, 6.2.2, 6.7.11), as far as another unit can tell.
use Rattle.std.specs.Prelude.{ℕ, ℤ, List, [], Option, Some, None, if◌then◌else◌}
use Rattle.model_runs.specs.Memory.{Numbered, Named, Block, Global, Outside, Scalar, Number, Null, Address, Code, Cell, contents_of}
use Rattle.model_runs.specs.Run.{Step, Goes, Ends, start_with}
use Rattle.model_core.specs.TypedUnitParts.{name_of}
use Rattle.model_core.specs.Core as source
use Rattle.model_runs.specs.SourceStart as source_start
use Rattle.model_core.specs.Program89 as target
use Rattle.model_c89.specs.TargetStart as target_start
use Rattle.model_c89.specs.TargetRun as target_run
use Rattle.c_model.specs.Seen.{Seen, SeenAs, Other, cells_or_none}

-- a pointer into the external object of a name, and to its function
abbrev pub into : Option (List ℕ) → (offset : ℤ) → Seen
into None offset = Other
into (Some name) offset = SeenAs (Address (Global (Named name)) offset)

abbrev pub to_function : Option (List ℕ) → Seen
to_function None = Other
to_function (Some name) = SeenAs (Code (Named name))

abbrev pub external_name : Option source.DeclaredObject → Option (List ℕ)
external_name None = None
external_name (Some o) = if o.is_external then o.name else None

abbrev pub external_function_name : Option source.Function → Option (List ℕ)
external_function_name None = None
external_function_name (Some g) = if g.is_external then name_of g.name else None

-- what another unit can tell of a scalar of a unit: an integer, null, and a pointer into what has an external
-- name
abbrev pub shared23 : source.Core → Scalar → Seen
shared23 core (Number value) = SeenAs (Number value)
shared23 core Null = SeenAs Null
shared23 core (Address (Global (Numbered id)) offset) = into (external_name (source.object_of core.objects id)) offset
shared23 core (Address (Outside name) offset) = SeenAs (Address (Outside name) offset)
shared23 core (Code (Numbered id)) = to_function (external_function_name (source.function_by_id core.functions id))
shared23 core scalar = Other

abbrev pub named_object : (name : List ℕ) → Option target.Outer → Option (List ℕ)
named_object name None = None
named_object name (Some o) = Some name

-- a function that the text doesn't define is external
abbrev pub named_function : (name : List ℕ) → Option target.Function → Option (List ℕ)
named_function name None = Some name
named_function name (Some g) = if g.is_static then None else Some name

-- and of a scalar of a text
abbrev pub shared89 : target.Program → Scalar → Seen
shared89 program (Number value) = SeenAs (Number value)
shared89 program Null = SeenAs Null
shared89 program (Address (Global (Named name)) offset) = into (named_object name (target.external_object program.outers name)) offset
shared89 program (Address (Outside name) offset) = SeenAs (Address (Outside name) offset)
shared89 program (Code (Named name)) = to_function (named_function name (target.function_of program.functions name))
shared89 program scalar = Other

-- the cells of a block, where static objects have got their values
abbrev pub cells_behind : Step (Unit {0}) → Block → List Cell
cells_behind (Goes u s) block = cells_or_none (contents_of s.memory block)
cells_behind (Ends ending s) block = []

-- those that an object of the unit begins with, and the object of a name in the text
abbrev pub begins23 : source.Core → (id : ℕ) → List Cell
begins23 core id = cells_behind (source_start.statics core (start_with (source_start.start_memory core) 0 [])) (Global (Numbered id))

abbrev pub begins89 : target.Program → (name : List ℕ) → List Cell
begins89 program name =
    cells_behind (target_start.place_values (target_run.file_frame program) program.outers (start_with (target_start.start_memory program) 0 []))
    (Global (Named name))
