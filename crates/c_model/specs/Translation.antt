-- What a C89 program shares with the unit that it was written for.
use Rattle.std.specs.Prelude.{◌≡◌, ◌⊎◌, ◌<◌, ℕ, ℤ, true, false, List, [], ◌∷◌, length, Option, Some, IsTrue}
use Rattle.cake_base.specs.declared.places.Place.{Place}
use Rattle.model_types.specs.declared.outcomes.Cause.{Cause}
use Rattle.model_types.specs.declared.types.StructId.{StructId}
use Rattle.model_types.specs.Operations.{fits}
use Rattle.model_types.specs.Types.{CType, Form, Void, Integer, Enum, Function, Types, no_types, more_types, form_of_type}
use Rattle.model_core.specs.Types89.{Type89}
use Rattle.model_runs.specs.Memory.{Value, Single, Number}
use Rattle.model_runs.specs.Run.{Run, Undefined}
use Rattle.model_core.specs.Core as source
use Rattle.model_runs.specs.SourceRun.{run23}
use Rattle.model_core.specs.Program89 as target
use Rattle.model_c89.specs.TargetRun.{run89}
use Rattle.c_model.specs.WrittenType.{StructNames, written_type}
use Rattle.c_model.specs.Seen.{SameBytes}
use Rattle.c_model.specs.ExportedTypes.{Reaches, HasMembers}
use Rattle.c_model.specs.ExportedObjects.{shared23, shared89, begins23, begins89}

abbrev pub HasBody : source.MaybeStat → Type 0
HasBody source.no_stat = ⊥
HasBody (source.a_stat body) = Unit {0}

abbrev pub IsDefinedBy : source.Storage → Type 0
IsDefinedBy (source.Static values) = Unit {0}
IsDefinedBy _ = ⊥

-- the unit defines an external function of this name, with this type
pub record Defines23 (core : source.Core) (name : List ℕ) (type : CType) : Type 0 where
  pub function : source.Function
  pub named : source.function_of core.functions name ≡ Some function
  pub external : function.is_external ≡ true
  pub body : HasBody function.body
  pub typed : function.type ≡ type

-- the program does
pub record Defines89 (program : target.Program) (name : List ℕ) (type : Type89) : Type 0 where
  pub function : target.Function
  pub named : target.function_of program.functions name ≡ Some function
  pub external : function.is_static ≡ false
  pub typed : target.function_type function ≡ type

-- the unit holds an external object of this name, with this type
pub record Holds23 (core : source.Core) (name : List ℕ) (type : CType) : Type 0 where
  pub object : source.DeclaredObject
  pub named : source.external_object core.objects name ≡ Some object
  pub defined : IsDefinedBy object.storage
  pub typed : object.type ≡ type

-- the program does
pub record Holds89 (program : target.Program) (name : List ℕ) (type : Type89) : Type 0 where
  pub object : target.Outer
  pub named : target.external_object program.outers name ≡ Some object
  pub typed : object.type ≡ type

-- what is defined is defined with the type as the text writes it, and nothing else
abbrev pub Agree : StructNames → (List ℕ → CType → Type 0) → (List ℕ → Type89 → Type 0) → Type 0
Agree names Defined Written =
    (name : List ℕ)
    → ((type : CType) → Defined name type → Written name (written_type names type))
    × ((written : Type89) → Written name written → (type : CType) × Defined name type × (written ≡ written_type names type))

-- an external function or object of this type
abbrev pub IsExported : source.Core → CType → Type 0
IsExported core type = (name : List ℕ) × (Defines23 core name type ⊎ Holds23 core name type)

-- the program defines exactly the external functions and objects that the unit defines, under their names
-- and with their types; no two structures have one tag, and those that an exported type reaches have their
-- members as the text writes them; and the objects begin with the same bytes, since another unit may read them
pub record Exports (core : source.Core) (program : target.Program) : Type 0 where
  pub names : StructNames
  pub functions : Agree names (Defines23 core) (Defines89 program)
  pub objects : Agree names (Holds23 core) (Holds89 program)
  pub tags : (id other : StructId) → id.0 < length core.structs → other.0 < length core.structs → names id ≡ names other → id ≡ other
  pub members : (type : CType) (id : StructId) → IsExported core type → Reaches core.structs type id → HasMembers names core program id
  pub values : (name : List ℕ) (type : CType) (held : Holds23 core name type) →
      SameBytes (shared23 core) (shared89 program) (begins23 core held.object.id) (begins89 program name)

-- a run without a meaning
abbrev pub IsUndefined : Run → Type 0
IsUndefined run = (cause : Cause) × (place : Option Place) × (run.ending ≡ Undefined cause place)

abbrev pub IsInteger : Form → Value → Type 0
IsInteger (Integer basic) (Single (Number value)) = IsTrue (fits basic value)
IsInteger (Enum basic order) (Single (Number value)) = IsTrue (fits basic value)
IsInteger form value = ⊥

abbrev pub IsResult : Form → Type 0
IsResult Void = Unit {0}
IsResult (Integer basic) = Unit {0}
IsResult (Enum basic order) = Unit {0}
IsResult form = ⊥

-- the arguments are values of these integer types
abbrev pub AreIntegers : Types → List Value → Type 0
AreIntegers no_types [] = Unit {0}
AreIntegers (more_types type types) (v ∷ vs) = IsInteger (form_of_type type) v × AreIntegers types vs
AreIntegers types arguments = ⊥

-- the parameters of an entry are integers, and so is its result, if it has one
abbrev pub IsEntryForm : Form → (arguments : List Value) → Type 0
IsEntryForm (Function result parameters false) arguments = IsResult (form_of_type result) × AreIntegers parameters arguments
IsEntryForm form arguments = ⊥

-- an entry is an external function that the unit defines
abbrev pub IsEntry : source.Core → (entry : List ℕ) → (arguments : List Value) → Type 0
IsEntry core entry arguments = (type : CType) × Defines23 core entry type × IsEntryForm (form_of_type type) arguments

-- for every bound on turns, entry, arguments and world the program runs as the unit, wherever the unit's
-- run has a meaning
abbrev pub Same : source.Core → target.Program → Type 0
Same core program =
    (n : ℕ) (entry : List ℕ) (arguments : List Value) (world : List ℤ) → IsEntry core entry arguments →
    IsUndefined (run23 n core entry arguments world)
    ⊎ (run89 n program entry arguments world ≡ run23 n core entry arguments world)
