-- The types that the five functions of <stdlib.h> are declared with (ISO/IEC 9899:2024, 7.24.3, 7.24.4), with
-- the qualifiers of ownership: no unit defines one of them or declares one otherwise.
use Rattle.std.specs.Prelude.{ℕ, Bool, true, false, ◌&&◌, if◌then◌else◌, List, [], ◌∷◌, Option, Some, None, codes}
use Rattle.std.specs.Str.{bytes_eq}
use Rattle.model_types.specs.declared.types.Quals.{Quals}
use Rattle.model_types.specs.Types.{CType, typed, Void, Pointer, no_types, more_types, Integer, Types, Function}
use Rattle.model_types.specs.Compatible.{compatible}
use Rattle.model_core.specs.CoreTypes.{no_quals, plain}
use Rattle.model_core.specs.Core as unit
use Rattle.model_types.specs.declared.numbers.Basic.TheVariants.{Int, UnsignedLong}

pub data Builtin : Type 0 where
  Malloc : Builtin
  Calloc : Builtin
  Free : Builtin
  Exit : Builtin
  Abort : Builtin

abbrev pub void_pointer : CType
void_pointer = plain (Pointer (plain Void))

abbrev pub size_type : CType
size_type = plain (Integer UnsignedLong)

abbrev pub function_type : CType → Types → CType
function_type result parameters = plain (Function result parameters false)

abbrev pub builtin_name : Builtin → List ℕ
builtin_name Malloc = codes "malloc"
builtin_name Calloc = codes "calloc"
builtin_name Free = codes "free"
builtin_name Exit = codes "exit"
builtin_name Abort = codes "abort"

-- the types of the five, ownership aside
abbrev pub builtin_type : Builtin → CType
builtin_type Malloc = function_type void_pointer (more_types size_type no_types)
builtin_type Calloc = function_type void_pointer (more_types size_type (more_types size_type no_types))
builtin_type Free = function_type (plain Void) (more_types void_pointer no_types)
builtin_type Exit = function_type (plain Void) (more_types (plain (Integer Int)) no_types)
builtin_type Abort = function_type (plain Void) no_types

abbrev pub owner_or_null : Quals
owner_or_null = record no_quals { has_owner = true; has_opt = true }

-- `void * _Owner _Opt`
abbrev pub owned_pointer : CType
owned_pointer = typed (Pointer (plain Void)) owner_or_null

abbrev pub declared_type : Builtin → CType
declared_type Malloc = function_type owned_pointer (more_types size_type no_types)
declared_type Calloc = function_type owned_pointer (more_types size_type (more_types size_type no_types))
declared_type Free = function_type (plain Void) (more_types owned_pointer no_types)
declared_type Exit = builtin_type Exit
declared_type Abort = builtin_type Abort

abbrev pub first_named : List Builtin → (name : List ℕ) → Option Builtin
first_named [] name = None
first_named (b ∷ bs) name = if bytes_eq (builtin_name b) name then Some b else first_named bs name

-- the one of this name
abbrev pub builtin_named : (name : List ℕ) → Option Builtin
builtin_named = first_named (Malloc ∷ Calloc ∷ Free ∷ Exit ∷ Abort ∷ [])

abbrev pub is_undefined : unit.MaybeStat → Bool
is_undefined unit.no_stat = true
is_undefined (unit.a_stat body) = false

abbrev pub declared_as : unit.Function → Option Builtin → Bool
declared_as g None = true
declared_as g (Some b) = g.is_external && is_undefined g.body && compatible g.type (declared_type b)

-- a function of one of their names is declared as they are, and isn't defined
abbrev pub function_spares_builtins : unit.Function → unit.FunctionName → Bool
function_spares_builtins g (unit.Named name) = declared_as g (builtin_named name)
function_spares_builtins g (unit.Lambda place) = true

abbrev pub is_free_name : Option Builtin → Bool
is_free_name None = true
is_free_name (Some b) = false

-- no external object has one of their names
abbrev pub object_spares_builtins : (is_external : Bool) → Option (List ℕ) → Bool
object_spares_builtins true (Some name) = is_free_name (builtin_named name)
object_spares_builtins is_external name = true
