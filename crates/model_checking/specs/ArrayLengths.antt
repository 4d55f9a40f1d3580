-- The length that an initializer gives an array without one (ISO/IEC 9899:2024, 6.7.11, paragraph 25): C22 where it gives
-- none, C25 where the array is too large.
use Rattle.std.specs.Prelude.{ℕ, zero, suc, ◌+◌, max, is_some, if◌then◌else◌, List, [], ◌∷◌, length, Some, None, Result, Ok}
use Rattle.cake_base.specs.declared.places.Place.{Place}
use Rattle.cake_base.specs.declared.rules.Fault.{Fault}
use Rattle.model_types.specs.Types.{CType, typed, Array}
use Rattle.model_types.specs.Structures.{Structure}
use Rattle.model_types.specs.Layout.{size_of}
use Rattle.model_checking.specs.State.{breaks}
use Rattle.model_checking.specs.Placing.{Content, Value, Text, Zeros, Placed}

-- how many elements there are up to the one that something is placed for; a string for the whole array has its zero
abbrev pub elements_for : Content → (path : List ℕ) → ℕ
elements_for content (rank ∷ ranks) = rank + 1
elements_for (Text id bytes value) [] = length bytes + 1
elements_for (Value value later) [] = 0
elements_for Zeros [] = 0

abbrev pub elements_in : List Placed → ℕ
elements_in [] = 0
elements_in (p ∷ ps) = max (elements_for p.content p.path) (elements_in ps)

abbrev pub if_small : List Structure → (first : Place) → CType → Result CType Fault
if_small structs first type = if is_some (size_of structs type) then Ok type else breaks first 25

-- the type of an object with what is placed for it; its declarator or type name has the first token
abbrev pub with_elements : List Structure → (first : Place) → CType → (count : ℕ) → Result CType Fault
with_elements structs first (typed (Array type None) quals) zero = breaks first 22
with_elements structs first (typed (Array type None) quals) (suc count) = if_small structs first (typed (Array type (Some (suc count))) quals)
with_elements structs first (typed form quals) count = Ok (typed form quals)
