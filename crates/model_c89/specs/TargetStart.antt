-- Memory before a C89 program's entry is called (ISO/IEC 9899:1990, 5.1.2, 6.5.7): objects of static storage
-- are zero and then get their values; an object of the outside that points to an incomplete structure holds
-- a handle.
use Rattle.std.specs.Prelude.{ℕ, ◌+◌, ◌*◌, pos, Bool, false, not, List, [], ◌∷◌, Option, Some, None, is_some, slice_get, if◌then◌else◌}
use Rattle.model_types.specs.declared.numbers.Basic.TheVariants.{Char}
use Rattle.model_types.specs.Operations.{convert}
use Rattle.model_core.specs.Types89.{Struct, Type89, Based, Pointer, Array, int_type}
use Rattle.model_runs.specs.Memory.{Named, Block, Global, Outside, HandleOf, Number, Address, Holds, Single, Memory, no_blocks, with_block, fresh, zeroed}
use Rattle.model_types.specs.Shapes.{IntegerShape}
use Rattle.model_runs.specs.Accesses.{place_to}
use Rattle.model_runs.specs.Run.{Act, ◌▷◌, just}
use Rattle.model_c89.specs.TargetLayout.{members_in, members_of, members_or_none, size_of, shape_of, offset_of}
use Rattle.model_c89.specs.TargetTypes.{value_type}
use Rattle.model_c89.specs.TargetFrame.{Frame, is_defined}
use Rattle.model_c89.specs.TargetOperations.{value_as}
use Rattle.model_c89.specs.TargetValues.{needed, evaluate, is_function}
use Rattle.model_core.specs.Program89 as text

-- the program completes the structure nowhere
abbrev pub is_incomplete : List text.Structure89 → (name : List ℕ) → Bool
is_incomplete structures name = not (is_some (members_in structures name))

abbrev pub is_handle_type : List text.Structure89 → Type89 → Bool
is_handle_type structures (Pointer is_const (Based inner (Struct name))) = is_incomplete structures name
is_handle_type structures type = false

-- memory with an object of the outside that holds a handle, and with what the handle stands for
abbrev pub with_handle : List ℕ → Memory → Memory
with_handle name memory =
    with_block
    (with_block memory (Outside name) (record (fresh 8) { cells = record { offset = 0; size = 8; content = Holds (Address (HandleOf name) (pos 0)) } ∷ [] }))
    (HandleOf name)
    (fresh 0)

abbrev pub with_outer : text.Program → text.Outer → Memory → Memory
with_outer program o memory =
    if is_function o.type then memory
    else if is_defined program.outers o.name then with_block memory (Global (Named o.name)) (zeroed (size_of program.structures o.type))
    else if is_handle_type program.structures o.type then with_handle o.name memory else memory

abbrev pub with_outers : text.Program → List text.Outer → Memory → Memory
with_outers program [] memory = memory
with_outers program (o ∷ os) memory = with_outers program os (with_outer program o memory)

-- the blocks of static storage
abbrev pub start_memory : text.Program → Memory
start_memory program = with_outers program program.outers no_blocks

abbrev pub declared_type : Option text.Declaration → Type89
declared_type None = int_type
declared_type (Some d) = d.type

-- the type and offset of a part: an element, or a member
abbrev pub part_type : List text.Structure89 → Type89 → (rank : ℕ) → Type89
part_type structures (Array count of) rank = of
part_type structures type rank = declared_type (slice_get (members_or_none (members_of structures type)) rank)

abbrev pub part_offset : List text.Structure89 → Type89 → (rank : ℕ) → ℕ
part_offset structures (Array count of) rank = rank * size_of structures of
part_offset structures type rank = offset_of structures type rank

-- the bytes of a string
abbrev pub place_text : Block → (offset : ℕ) → List ℕ → Act (Unit {0})
place_text block offset [] = just tt
place_text block offset (byte ∷ bytes) =
    place_to None (IntegerShape Char) block (pos offset) (Single (Number (convert Char (pos byte)))) ▷ (λ u. place_text block (offset + 1) bytes)

abbrev mutual
  -- a part of an object gets its initial value
  pub place_init : Frame → Block → Type89 → (offset : ℕ) → text.Init → Act (Unit {0})
  place_init f block type offset (text.Value e) =
      needed (evaluate f e) ▷ (λ v. place_to None (shape_of f.program.structures type) block (pos offset) (value_as (value_type f.names e) type v))
  place_init f block type offset (text.Text bytes) = place_text block offset bytes
  place_init f block type offset (text.Braces first others) =
      place_init f block (part_type f.program.structures type 0) (offset + part_offset f.program.structures type 0) first
      ▷ (λ u. place_inits f block type offset 1 others)

  -- its parts from a rank on
  pub place_inits : Frame → Block → Type89 → (offset rank : ℕ) → text.Inits → Act (Unit {0})
  place_inits f block type offset rank text.no_inits = just tt
  place_inits f block type offset rank (text.more_inits first others) =
      place_init f block (part_type f.program.structures type rank) (offset + part_offset f.program.structures type rank) first
      ▷ (λ u. place_inits f block type offset (rank + 1) others)

abbrev pub place_value : Frame → text.Outer → Option text.Init → Act (Unit {0})
place_value f o None = just tt
place_value f o (Some init) = place_init f (Global (Named o.name)) o.type 0 init

abbrev pub place_values : Frame → List text.Outer → Act (Unit {0})
place_values f [] = just tt
place_values f (o ∷ os) = place_value f o o.init ▷ (λ u. place_values f os)
