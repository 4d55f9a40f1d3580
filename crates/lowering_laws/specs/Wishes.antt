-- What becomes of the names of a unit: those that are kept are external, or those of strings, and are different.
use Rattle.std.specs.Prelude.{◌≡◌, ◌⊎◌, ◌<◌, ◌^◌, ℕ, nat_eq, Bool, true, false, ◌||◌, List, [], ◌∷◌, ◌++◌, codes}
use Rattle.model_core.specs.Core.{Core}
use Rattle.model_c89.specs.Names89.{is_among}
use Rattle.model_lowering.specs.TextNames.{Wish, Keeps, Wants, made, external_names, object_ids, function_ids, object_wishes, function_wishes}

abbrev pub IsGood : (externals : List (List ℕ)) → Wish → Type 0
IsGood externals (Keeps name) = (is_among externals name ≡ true) ⊎ ((number : ℕ) × (number < 2 ^ 64) × (name ≡ made (codes "cake_s") number))
IsGood externals (Wants front) = Unit {0}

abbrev pub AreGood : (externals : List (List ℕ)) → List Wish → Type 0
AreGood externals [] = Unit {0}
AreGood externals (w ∷ ws) = IsGood externals w × AreGood externals ws

abbrev pub NotKept : (name : List ℕ) → List Wish → Type 0
NotKept name [] = Unit {0}
NotKept name (Wants front ∷ ws) = NotKept name ws
NotKept name (Keeps other ∷ ws) = (name ≡ other → ⊥) × NotKept name ws

-- no name is kept twice
abbrev pub KeptApart : List Wish → Type 0
KeptApart [] = Unit {0}
KeptApart (Wants front ∷ ws) = KeptApart ws
KeptApart (Keeps name ∷ ws) = NotKept name ws × KeptApart ws

abbrev pub wishes_of : Core → List Wish
wishes_of core = object_wishes (external_names core) 0 core.objects ++ function_wishes core.functions

-- an id of the unit
abbrev pub is_in : (ids : List ℕ) → (id : ℕ) → Bool
is_in [] id = false
is_in (first ∷ ids) id = nat_eq first id || is_in ids id

abbrev pub is_declared : Core → (id : ℕ) → Bool
is_declared core id = is_in (object_ids core.objects ++ function_ids core.functions) id
