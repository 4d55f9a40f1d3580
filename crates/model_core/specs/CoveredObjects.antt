-- Objects all of whose scalars get a value (ISO/IEC 9899:2024, 6.7.11): what is left out of an initializer, but
-- for objects of static storage, is a zero that is written out.
use Rattle.std.specs.Prelude.{◌≡◌, ℕ, nat_eq, Bool, true, false, ◌&&◌, ◌||◌, List, [], ◌∷◌, Some, IsTrue}
use Rattle.model_types.specs.Types.{CType, form_of_type}
use Rattle.model_types.specs.Structures.{Structure}
use Rattle.model_core.specs.TypedParts.{is_scalar}
use Rattle.model_core.specs.InitialParts.{Part, part_at}
use Rattle.model_core.specs.Core as unit

-- the part at one way is that at the other, or holds it
abbrev pub holds_part : (path other : List ℕ) → Bool
holds_part [] other = true
holds_part (rank ∷ ranks) [] = false
holds_part (rank ∷ ranks) (other ∷ others) = nat_eq rank other && holds_part ranks others

-- one of the values is for the part, or for a structure that holds it
abbrev pub gives_value : (path : List ℕ) → unit.Initials → Bool
gives_value path unit.no_initials = false
gives_value path (unit.more_initials other offset type value others) = holds_part other path || gives_value path others

-- every scalar of an object of the type has a value
abbrev pub Covers : List Structure → (object : CType) → unit.Initials → Type 0
Covers structs object values =
    (path : List ℕ) (part : Part) → part_at structs object path ≡ Some part → IsTrue (is_scalar (form_of_type part.type)) →
    IsTrue (gives_value path values)
