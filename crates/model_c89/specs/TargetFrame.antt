-- What stays the same while a function of a C89 program runs, and its objects (ISO/IEC 9899:1990, 6.1.2.4).
use Rattle.std.specs.Prelude.{ℕ, Bool, true, false, ◌||◌, List, [], ◌∷◌, ◌++◌, Option, None, if◌then◌else◌}
use Rattle.std.specs.Str.{bytes_eq}
use Rattle.model_core.specs.Types89.{Type89}
use Rattle.model_runs.specs.Memory.{Named, Block, Global, Local, Outside, Scalar, Value, Contents, Memory, with_block, fresh}
use Rattle.model_runs.specs.Run.{Goes, Act}
use Rattle.model_c89.specs.TargetLayout.{size_of}
use Rattle.model_c89.specs.TargetTypes.{Names}
use Rattle.model_core.specs.Program89 as text

-- what a call by a pointer does: the pointer with its type, and the arguments with their types
abbrev pub Callee : Type 0
Callee = Scalar → Type89 → List Type89 → List Value → Act Value

abbrev mutual
  -- the objects that statements declare, at any depth; blocks side by side may declare one name
  pub declared_in : text.Stat → List text.Declaration
  declared_in (text.Evaluate value) = []
  declared_in (text.Assign left right) = []
  declared_in text.Empty = []
  declared_in (text.Block objects body) = objects ++ all_declared_in body
  declared_in (text.If condition objects body) = objects ++ all_declared_in body
  declared_in (text.IfElse condition objects body other_objects other_body) =
      objects ++ (all_declared_in body ++ (other_objects ++ all_declared_in other_body))
  declared_in (text.Forever objects body) = objects ++ all_declared_in body
  declared_in (text.Switch value items) = items_declare items
  declared_in text.Break = []
  declared_in text.Continue = []
  declared_in text.ReturnNothing = []
  declared_in (text.Return value) = []

  pub all_declared_in : text.Stats → List text.Declaration
  all_declared_in text.no_stats = []
  all_declared_in (text.more_stats stat stats) = declared_in stat ++ all_declared_in stats

  pub items_declare : text.Items → List text.Declaration
  items_declare text.no_items = []
  items_declare (text.an_item labels stat items) = declared_in stat ++ items_declare items

-- the parameters and objects of a function
abbrev pub locals : text.Function → List text.Declaration
locals f = f.parameters ++ (f.objects ++ all_declared_in f.body)

abbrev pub is_declared : List text.Declaration → (name : List ℕ) → Bool
is_declared [] name = false
is_declared (d ∷ ds) name = bytes_eq d.name name || is_declared ds name

abbrev pub defines_by : text.Storage → Option text.Init → Bool
defines_by text.Extern None = false
defines_by storage init = true

-- an outer defines its object, but for one with `extern` and no value
abbrev pub defines : text.Outer → Bool
defines outer = defines_by outer.storage outer.init

-- one of the outers defines the object of this name
abbrev pub is_defined : List text.Outer → (name : List ℕ) → Bool
is_defined [] name = false
is_defined (o ∷ os) name = (if bytes_eq o.name name then defines o else false) || is_defined os name

-- the program, the number of the call, what a call does, the function's objects, all names with their
-- types, and the type of the result
pub record Frame : Type 0 where
  pub program : text.Program
  pub call : ℕ
  pub callee : Callee
  pub objects : List text.Declaration
  pub names : Names
  pub result : Type89

-- the block of the object of a name
abbrev pub block_of : Frame → (name : List ℕ) → Block
block_of f name =
    if is_declared f.objects name then Local f.call (Named name)
    else if is_defined f.program.outers name then Global (Named name) else Outside name

-- an object whose scope is entered lives, and nothing is known of it
abbrev pub entered : List text.Structure89 → (call : ℕ) → List text.Declaration → Memory → Memory
entered structures call [] memory = memory
entered structures call (d ∷ ds) memory = entered structures call ds (with_block memory (Local call (Named d.name)) (fresh (size_of structures d.type)))

abbrev pub dead : (size : ℕ) → Contents
dead size = record (fresh size) { live = false }

-- one whose scope is left is dead
abbrev pub scope_left : List text.Structure89 → (call : ℕ) → List text.Declaration → Memory → Memory
scope_left structures call [] memory = memory
scope_left structures call (d ∷ ds) memory = scope_left structures call ds (with_block memory (Local call (Named d.name)) (dead (size_of structures d.type)))

abbrev pub enter_scope : List text.Structure89 → (call : ℕ) → List text.Declaration → Act (Unit {0})
enter_scope structures call ds = λ s. Goes tt (record s { memory = entered structures call ds s.memory })

abbrev pub leave_scope : List text.Structure89 → (call : ℕ) → List text.Declaration → Act (Unit {0})
leave_scope structures call ds = λ s. Goes tt (record s { memory = scope_left structures call ds s.memory })

abbrev pub outer_names : List text.Outer → List text.Declaration
outer_names [] = []
outer_names (o ∷ os) = record { type = o.type; name = o.name } ∷ outer_names os

abbrev pub function_names : List text.Function → List text.Declaration
function_names [] = []
function_names (g ∷ gs) = record { type = text.function_type g; name = g.name } ∷ function_names gs

-- the names outside of functions
abbrev pub file_names : text.Program → List text.Declaration
file_names program = outer_names program.outers ++ function_names program.functions
