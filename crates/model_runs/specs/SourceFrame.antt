-- What stays the same while a function of a unit runs, and its objects (ISO/IEC 9899:2024, 6.2.4, 6.7.11).
use Rattle.std.specs.Prelude.{ℕ, false, List, [], ◌∷◌, Option, Some, None}
use Rattle.cake_base.specs.declared.places.Place.{Place}
use Rattle.model_types.specs.Types.{CType}
use Rattle.model_types.specs.Structures.{Structure}
use Rattle.model_runs.specs.Memory.{Numbered, Block, Global, Local, Outside, Scalar, Value, Contents, Memory, with_block, fresh}
use Rattle.model_runs.specs.Run.{Goes, Act}
use Rattle.model_core.specs.CoreTypes.{size_in}
use Rattle.model_core.specs.Core as unit

-- what a call by a pointer does, at the place of the call: that of a null pointer, the pointer with its
-- type, and the arguments with their types
abbrev pub Callee : Type 0
Callee = (place null_place : Option Place) → Scalar → CType → List CType → List Value → Act Value

-- the unit, the number of the call, and what a call does
pub record Frame : Type 0 where
  pub core : unit.Core
  pub call : ℕ
  pub callee : Callee

abbrev pub named_block : Option (List ℕ) → Block
named_block None = Outside []
named_block (Some name) = Outside name

-- the block of an object in a call, by its storage
abbrev pub block_by : unit.Storage → (call id : ℕ) → Option (List ℕ) → Block
block_by unit.Automatic call id name = Local call (Numbered id)
block_by unit.Parameter call id name = Local call (Numbered id)
block_by (unit.Static values) call id name = Global (Numbered id)
block_by (unit.Text bytes) call id name = Global (Numbered id)
block_by unit.Declared call id name = named_block name

abbrev pub block_for : Option unit.DeclaredObject → (call id : ℕ) → Block
block_for None call id = Local call (Numbered id)
block_for (Some o) call id = block_by o.storage call id o.name

abbrev pub block_of : unit.Core → (call id : ℕ) → Block
block_of core call id = block_for (unit.object_of core.objects id) call id

abbrev pub declared_size : List Structure → Option unit.DeclaredObject → ℕ
declared_size structs None = 0
declared_size structs (Some o) = size_in structs o.type

-- the size of an object
abbrev pub size_of_object : unit.Core → (id : ℕ) → ℕ
size_of_object core id = declared_size core.structs (unit.object_of core.objects id)

-- an object whose scope is entered lives, and nothing is known of it
abbrev pub entered : unit.Core → (call : ℕ) → List ℕ → Memory → Memory
entered core call [] memory = memory
entered core call (id ∷ ids) memory = entered core call ids (with_block memory (Local call (Numbered id)) (fresh (size_of_object core id)))

-- one whose scope is left is dead
abbrev pub dead : (size : ℕ) → Contents
dead size = record (fresh size) { live = false }

abbrev pub scope_left : unit.Core → (call : ℕ) → List ℕ → Memory → Memory
scope_left core call [] memory = memory
scope_left core call (id ∷ ids) memory = scope_left core call ids (with_block memory (Local call (Numbered id)) (dead (size_of_object core id)))

abbrev pub enter_scope : unit.Core → (call : ℕ) → List ℕ → Act (Unit {0})
enter_scope core call ids = λ s. Goes tt (record s { memory = entered core call ids s.memory })

abbrev pub leave_scope : unit.Core → (call : ℕ) → List ℕ → Act (Unit {0})
leave_scope core call ids = λ s. Goes tt (record s { memory = scope_left core call ids s.memory })
