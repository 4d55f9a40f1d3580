-- Structures of a unit have different names.
use Rattle.std.proofs.Common.{◌≡◌, ◌∙◌, ap, sym, refl, arith, ℕ, zero, suc, ◌+◌, ◌<◌, ◌≤◌, ◌^◌, List, [], ◌∷◌, length, Option, Some, None, slice_get, ◌⊎◌, inl, inr}
use Rattle.std.proofs.lemmas.Bool.{cases_order}
use Rattle.model_types.specs.declared.types.StructId.{StructId}
use Rattle.model_types.specs.Structures.{Structure}
use Rattle.model_core.specs.Core.{Core}
use Rattle.model_lowering.specs.TextNames.{Wish, Keeps, Wants, stem, all_named, named, structure_wishes, external_names, naming_of, or_empty}
use Rattle.lowering_laws.specs.Numbers.{behind_declared, behind_structures}
use Rattle.lowering_laws.proofs.DifferentNames.{AllWant, names_differ}

all_want : (ss : List Structure) → AllWant (structure_wishes ss)
all_want [] = tt
all_want (s ∷ ss) = all_want ss

abbrev id_of : ℕ → StructId
id_of n = record { 0 = n }

record Found (names : List (List ℕ)) (k : ℕ) : Type 0 where
  name : List ℕ
  there : slice_get names k ≡ Some name

has_name : (externals : List (List ℕ)) (next : ℕ) (ss : List Structure) (k : ℕ) → k < length ss → Found (all_named externals next (structure_wishes ss)).made k
has_name externals next [] k h = absurd (omega (arith, h))
has_name externals next (s ∷ ss) zero h = record { name = _; there = refl }
has_name externals next (s ∷ ss) (suc k) h =
    let x = has_name externals (named externals next (Wants (stem s.tag))).next ss k (omega (arith, h)) in
    record { name = x.name; there = x.there }

by_order : (externals : List (List ℕ)) (next : ℕ) (ss : List Structure) (i j : ℕ) (a b : List ℕ) → (i ≡ j) ⊎ ((i < j) ⊎ (j < i)) →
    (all_named externals next (structure_wishes ss)).next ≤ 2 ^ 64 → slice_get (all_named externals next (structure_wishes ss)).made i ≡ Some a →
    slice_get (all_named externals next (structure_wishes ss)).made j ≡ Some b → a ≡ b → i ≡ j
by_order externals next ss i j a b (inl e) small f g same = e
by_order externals next ss i j a b (inr (inl h)) small f g same = absurd (names_differ externals next (structure_wishes ss) i j a b (all_want ss) small h f g same)
by_order externals next ss i j a b (inr (inr h)) small f g same = absurd (names_differ externals next (structure_wishes ss) j i b a (all_want ss) small h g f (sym same))

pub structures_differ : (core : Core) (id other : StructId) → behind_structures core ≤ 2 ^ 64 → id.0 < length core.structs → other.0 < length core.structs →
    (naming_of core).structure id ≡ (naming_of core).structure other → id ≡ other
structures_differ core id other small h k same =
    let x = has_name (external_names core) (behind_declared core) core.structs id.0 h in
    let y = has_name (external_names core) (behind_declared core) core.structs other.0 k in
    let e : id.0 ≡ other.0 = by_order (external_names core) (behind_declared core) core.structs id.0 other.0 x.name y.name (cases_order id.0 other.0) small x.there y.there
    (ap or_empty (sym x.there) ∙ same ∙ ap or_empty y.there) in
    ap (λ (n : ℕ). id_of n) e
