-- When one unit does as another, as a unit does whose deferred statements or function literals were rewritten
-- (ISO/IEC 9899:2024, 5.1.2.4, 6.2.2).
use Rattle.std.specs.Prelude.{◌≡◌, ◌⊎◌, ℕ, ℤ, List}
use Rattle.model_types.specs.Types.{CType, form_of_type}
use Rattle.model_runs.specs.Memory.{Memory, Value}
use Rattle.model_runs.specs.Run.{run_of}
use Rattle.model_core.specs.Core.{Core}
use Rattle.c_model.specs.Seen.{SameBytes}
use Rattle.c_model.specs.ExportedObjects.{shared23, begins23}
use Rattle.c_model.specs.Translation.{Defines23, Holds23, IsUndefined}
use Rattle.c_model.specs.GivenBlocks.{AreGiven, TakesArguments, SameStep, result_form, ended_from23}

-- the other runs as the first, for every bound on turns, external function, given blocks, arguments and world,
-- wherever the first one's run has a meaning
abbrev pub SameRuns : Core → Core → Type 0
SameRuns core other =
    (n : ℕ) (entry : List ℕ) (type : CType) (given : Memory) (arguments : List Value) (world : List ℤ) →
    Defines23 core entry type → AreGiven given → TakesArguments (form_of_type type) arguments →
    IsUndefined (run_of (ended_from23 n core given entry arguments world))
    ⊎ SameStep (result_form type) (ended_from23 n core given entry arguments world) (ended_from23 n other given entry arguments world)

-- one defines what the other does, with the same types
abbrev pub Alike : (List ℕ → CType → Type 0) → (List ℕ → CType → Type 0) → Type 0
Alike Defined Kept = (name : List ℕ) (type : CType) → (Defined name type → Kept name type) × (Kept name type → Defined name type)

-- the external functions and objects are the same, with their types, structures and first bytes
pub record SameExternals (core other : Core) : Type 0 where
  pub structs : core.structs ≡ other.structs
  pub functions : Alike (Defines23 core) (Defines23 other)
  pub objects : Alike (Holds23 core) (Holds23 other)
  pub values : (name : List ℕ) (type : CType) (held : Holds23 core name type) (kept : Holds23 other name type) →
      SameBytes (shared23 core) (shared23 other) (begins23 core held.object.id) (begins23 other kept.object.id)
