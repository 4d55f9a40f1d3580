-- Memory before a unit's entry is called (ISO/IEC 9899:2024, 5.1.2.1, 6.4.5, 6.7.11): objects of static
-- storage are zero and then get their values; a string literal is read-only; an object of the outside that
-- points to an incomplete structure holds a handle.
use Rattle.std.specs.Prelude.{ℕ, ◌+◌, pos, ◌==◌, Bool, true, false, List, [], ◌∷◌, ◌++◌, length, Option, Some, None, if◌then◌else◌}
use Rattle.model_types.specs.declared.numbers.Basic.TheVariants.{Char}
use Rattle.model_types.specs.declared.outcomes.Cause.TheVariants.{BadCall}
use Rattle.model_types.specs.Types.{CType, typed, Pointer, Struct}
use Rattle.model_types.specs.Structures.{Structure}
use Rattle.model_types.specs.Operations.{convert}
use Rattle.model_runs.specs.Memory.{Numbered, Block, Single, Global, Outside, HandleOf, Number, Address, Holds, Contents, Memory, fresh, zeroed}
use Rattle.model_runs.specs.Run.{Act, ◌▷◌, just, ends, Undefined}
use Rattle.model_core.specs.CoreTypes.{size_in, int_type, shape_of}
use Rattle.model_runs.specs.SourceFrame.{Callee, Frame}
use Rattle.model_runs.specs.SourceCalls.{is_incomplete}
use Rattle.model_runs.specs.SourceValues.{needed, evaluate}
use Rattle.model_core.specs.SourceMarks.{at_mark, expr_mark}
use Rattle.model_runs.specs.Accesses.{place_to}
use Rattle.model_runs.specs.Stores.{with_value}
use Rattle.model_core.specs.Core as unit

abbrev pub type_in : Option unit.DeclaredObject → CType
type_in None = int_type
type_in (Some o) = o.type

-- the type of an object
abbrev pub object_type_of : unit.Core → (id : ℕ) → CType
object_type_of core id = type_in (unit.object_of core.objects id)

-- zeros in which the bytes of a string stand from an offset on
abbrev pub with_text : (offset : ℕ) → List ℕ → Contents → Contents
with_text offset [] contents = contents
with_text offset (byte ∷ bytes) contents =
    with_text (offset + 1) bytes (if byte == 0 then contents else with_value contents offset 1 (Single (Number (convert Char (pos byte)))))

-- the bytes of a string, and the zero behind them
abbrev pub text_contents : List ℕ → Contents
text_contents bytes = record (with_text 0 bytes (zeroed (length bytes + 1))) { read_only = true }

-- the type is a pointer to a structure that the unit completes nowhere
abbrev pub is_handle_type : List Structure → CType → Bool
is_handle_type structs (typed (Pointer (typed (Struct id) inner)) outer) = is_incomplete structs id
is_handle_type structs _ = false

-- an object of the outside that holds a handle, and what the handle stands for
abbrev pub held_handle : Option (List ℕ) → Memory
held_handle None = []
held_handle (Some name) =
    (Outside name, record (fresh 8) { cells = record { offset = 0; size = 8; content = Holds (Address (HandleOf name) (pos 0)) } ∷ [] })
    ∷ (HandleOf name, fresh 0)
    ∷ []

abbrev pub blocks_by : List Structure → unit.DeclaredObject → unit.Storage → Memory
blocks_by structs o unit.Automatic = []
blocks_by structs o unit.Parameter = []
blocks_by structs o (unit.Static values) = (Global (Numbered o.id), zeroed (size_in structs o.type)) ∷ []
blocks_by structs o (unit.Text bytes) = (Global (Numbered o.id), text_contents bytes) ∷ []
blocks_by structs o unit.Declared = if is_handle_type structs o.type then held_handle o.name else []

abbrev pub blocks_of : List Structure → List unit.DeclaredObject → Memory
blocks_of structs [] = []
blocks_of structs (o ∷ os) = blocks_by structs o o.storage ++ blocks_of structs os

-- the blocks of static storage
abbrev pub start_memory : unit.Core → Memory
start_memory core = blocks_of core.structs core.objects

-- the block of a static object gets its values
abbrev pub placed : Frame → Block → unit.Initials → Act (Unit {0})
placed f block unit.no_initials = just tt
placed f block (unit.more_initials path offset type e others) =
    needed e (evaluate f e)
    ▷ (λ v. place_to (at_mark (expr_mark e)) (shape_of f.core.structs type) block (pos offset) v ▷ (λ u. placed f block others))

-- nothing is called for the values of static objects
abbrev pub no_call : Callee
no_call place null_place pointer type types vs = ends (Undefined BadCall place)

abbrev pub started : unit.Core → unit.DeclaredObject → unit.Storage → Act (Unit {0})
started core o (unit.Static values) = placed (record { core = core; call = 0; callee = no_call }) (Global (Numbered o.id)) values
started core o _ = just tt

abbrev pub all_started : unit.Core → List unit.DeclaredObject → Act (Unit {0})
all_started core [] = just tt
all_started core (o ∷ os) = started core o o.storage ▷ (λ u. all_started core os)

-- the objects of static storage get their values
abbrev pub statics : unit.Core → Act (Unit {0})
statics core = all_started core core.objects
