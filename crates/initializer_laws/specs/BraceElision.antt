-- Braces that may be left out (ISO/IEC 9899:2024, 6.7.11, paragraph 23).
use Rattle.std.specs.Prelude.{◌≡◌, ℕ, false, List, [], ◌∷◌, ◌++◌, Option, Some, None, Result, Ok}
use Rattle.cake_base.specs.declared.places.Place.{Place}
use Rattle.cake_base.specs.declared.rules.Fault.{Fault}
use Rattle.model_types.specs.Types.{CType, form_of_type}
use Rattle.model_types.specs.Structures.{Structure}
use Rattle.model_core.specs.CoreTypes.{type_of}
use Rattle.model_checking.specs.Parts.{Given, a_value, a_text, in_braces, faulty, GivenItems, no_given, more_given}
use Rattle.model_checking.specs.Ways.{Step, Bare, a_string, a_value_of, reached, ranks, start, behind, takes, taker}
use Rattle.model_checking.specs.Placing.{Zeros, Placed, after, given_first, begin, aimed, before, place_list}

-- items without designators, in front of others
abbrev pub followed_by : List Given → GivenItems → GivenItems
followed_by [] others = others
followed_by (g ∷ gs) others = more_given [] g (followed_by gs others)

-- where a list goes on behind these items
abbrev pub position_behind : List Structure → (object : CType) → (next : Option (List Step)) → List Given → Result (Option (List Step)) Fault
position_behind structs object next [] = Ok next
position_behind structs object next (g ∷ gs) =
    after (aimed structs object g (begin structs object next [] (given_first g))) (λ way. position_behind structs object (behind structs way) gs)

-- what stands without braces
abbrev pub bare_of : Given → Option Bare
bare_of (a_value value first later) = Some (a_value_of (type_of value))
bare_of (a_text id bytes value first) = Some a_string
bare_of (in_braces items place) = None
bare_of (faulty fault first) = None

abbrev pub zeros_at : CType → (path : List ℕ) → Place → Placed
zeros_at part path place = record { path = path; type = part; content = Zeros; first = place }

-- an item in braces that are full: their items leave no element or member of its part out
pub record IsFull (structs : List Structure) (part : CType) (g : Given) (gs : List Given) : Type 0 where
  pub fills : position_behind structs part (start structs part) (g ∷ gs) ≡ Ok None

-- the first of these items stands without braces, and is for an element or member at some depth, not for the whole
pub record IsForParts (structs : List Structure) (object : CType) (way : List Step) (g : Given) : Type 0 where
  pub bare : Bare
  pub is_bare : bare_of g ≡ Some bare
  pub not_whole : takes bare (form_of_type (reached object way)) ≡ false
  pub taken_at : List Step
  pub is_taken : taker structs bare object way ≡ Some taken_at

-- a list in which these braces are left out is placed as the one that has them, but for the zeros with which braces begin
abbrev pub MayBeLeftOut : Type 0
MayBeLeftOut =
    (structs : List Structure) (object : CType) (path : List ℕ) (way : List Step) (g : Given) (gs : List Given) (place : Place) (others : GivenItems) →
    IsFull structs (reached object way) g gs → IsForParts structs object way g →
    place_list structs object path (Some way) (more_given [] (in_braces (followed_by (g ∷ gs) no_given) place) others)
    ≡ before (zeros_at (reached object way) (path ++ ranks way) place) (place_list structs object path (Some way) (followed_by (g ∷ gs) others))
