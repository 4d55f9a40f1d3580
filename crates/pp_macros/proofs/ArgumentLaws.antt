-- The parts of a call, one token after another.
use Rattle.std.proofs.Common.{◌≡◌, ℕ, suc, ◌+◌, ◌-◌, ◌<◌, Bool, true, false, ◌&&◌, ◌==◌, nat_lt, List, [], ◌∷◌, ◌++◌, Option, Some, None, length, map, drop, refl, ap, sym, ◌∙◌, append_assoc, append-nil, length-append, ◌≤◌, cond, arith}
use Rattle.cake_base.specs.declared.places.Place.{Place}
use Rattle.model_macros.specs.Macros.{spells}
use Rattle.model_macros.specs.MacroDefinitions.{COMMA}
use Rattle.model_macros.specs.ReplacementLists.{deeper}
use Rattle.model_macros.specs.MacroArguments.{Painted, Run, Inside, in_front, at_place, placed, onto, parts}

abbrev pub all_in_front : Run → Option Inside → Option Inside
all_in_front xs None = None
all_in_front xs (Some i) = Some (record i { tokens = xs ++ i.tokens })

abbrev pub to_first : Run → List Run → List Run
to_first xs [] = xs ∷ []
to_first xs (r ∷ rs) = (xs ++ r) ∷ rs

pub to_first-onto : (xs : Run) (p : Painted) (rs : List Run) → to_first (xs ++ p ∷ []) rs ≡ to_first xs (onto p rs)
to_first-onto xs p [] = refl
to_first-onto xs p (r ∷ rs) = ap (λ (z : Run). z ∷ rs) (append_assoc xs (p ∷ []) r)

onto-first : (p : Painted) (rs : List Run) → to_first [] (onto p rs) ≡ onto p rs
onto-first p [] = refl
onto-first p (r ∷ rs) = refl

pub parts-first : (commas depth : ℕ) (run : Run) → to_first [] (parts commas depth run) ≡ parts commas depth run
parts-first commas depth [] = refl
parts-first commas depth (p ∷ ps) =
    elim (spells COMMA p.tok && depth == 0 && nat_lt 0 commas) as (λ t. to_first [] (cond t ([] ∷ parts (commas - 1) depth ps) (onto p (parts commas (deeper depth p.tok) ps))) ≡ cond t ([] ∷ parts (commas - 1) depth ps) (onto p (parts commas (deeper depth p.tok) ps))) [
      | true ↦ refl
      | false ↦ onto-first p (parts commas (deeper depth p.tok) ps)
    ]

pub all_in_front-placed : (place : Place) (xs : Run) (p : Painted) (o : Option Inside) → all_in_front xs (placed place (in_front p o)) ≡ all_in_front (xs ++ at_place place p ∷ []) (placed place o)
all_in_front-placed place xs p None = refl
all_in_front-placed place xs p (Some i) =
    ap (λ (z : Run). Some (record i { tokens = z })) (sym (append_assoc xs (at_place place p ∷ []) (map (at_place place) i.tokens)))

pub ruleset splits = (to_first-onto, parts-first, append_assoc, append-nil, length-append, all_in_front-placed)
