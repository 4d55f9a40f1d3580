-- The numbers that the names of a unit take.
use Rattle.std.specs.Prelude.{ℕ, List, [], ◌∷◌, ◌++◌}
use Rattle.model_types.specs.Structures.{Structure}
use Rattle.model_core.specs.Core.{Core}
use Rattle.model_lowering.specs.TextNames.{external_names, all_named, object_wishes, function_wishes, structure_wishes, member_wishes}

-- the first number behind those of objects and functions, and behind those of structures
abbrev pub behind_declared : Core → ℕ
behind_declared core =
    (all_named (external_names core) 1 (object_wishes (external_names core) 0 core.objects ++ function_wishes core.functions)).next

abbrev pub behind_structures : Core → ℕ
behind_structures core = (all_named (external_names core) (behind_declared core) (structure_wishes core.structs)).next

-- behind those of members, structure by structure
abbrev pub behind_members_of : (externals : List (List ℕ)) → (next : ℕ) → List Structure → ℕ
behind_members_of externals next [] = next
behind_members_of externals next (s ∷ ss) = behind_members_of externals (all_named externals next (member_wishes s.members)).next ss

abbrev pub behind_members : Core → ℕ
behind_members core = behind_members_of (external_names core) (behind_structures core) core.structs
