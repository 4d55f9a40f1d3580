-- Names of what stands in no unit of the source, and the order of what a core has (this profile's own): a tree
-- has one core.
use Rattle.std.specs.Prelude.{ℕ, suc, nat_lt, Bool, true, ◌&&◌, not, List, [], ◌∷◌, ◌++◌, map, codes}
use Rattle.std.specs.Fmt.{decimal}
use Rattle.model_core.specs.TypedCore.{object_ids, function_ids}
use Rattle.model_core.specs.Core as unit

-- the name of a function literal that became a function, by how many of them come before it
abbrev pub lifted_name : (before : ℕ) → List ℕ
lifted_name before = codes "cake_f" ++ decimal (suc before)

-- no number is less than the one before it
abbrev pub are_in_order : List ℕ → Bool
are_in_order [] = true
are_in_order (first ∷ []) = true
are_in_order (first ∷ second ∷ others) = not (nat_lt second first) && are_in_order (second ∷ others)

-- objects and functions stand in the order of their numbers (of which a typed core has none twice), and types that
-- are named in the order of their places
abbrev pub is_in_order : unit.Core → Bool
is_in_order core =
    are_in_order (object_ids core.objects) && are_in_order (function_ids core.functions) && are_in_order (map (λ named. named.0.order) core.named_types)
