-- Objects and functions of a unit have different names.
use Rattle.std.proofs.Common.{◌≡◌, ◌∙◌, ap, sym, refl, arith, ℕ, zero, suc, ◌+◌, ◌<◌, ◌≤◌, ◌^◌, nat_eq, Bool, true, false, true≢false, ◌||◌, List, [], ◌∷◌, ◌++◌, length, Option, Some, None, slice_get, ◌⊎◌, inl, inr, if◌then◌else◌}
use Rattle.std.proofs.lemmas.Bool.{cases_order, eqb-true}
use Rattle.model_core.specs.Core as source
use Rattle.model_lowering.specs.TextNames as t
use Rattle.model_lowering.specs.TextNames.{Wish, Keeps, Wants, all_named, found, naming_of, external_names, object_ids, function_ids, object_wishes, function_wishes}
use Rattle.lowering_laws.specs.Wishes.{AreGood, KeptApart, wishes_of, is_in, is_declared}
use Rattle.lowering_laws.specs.Numbers.{behind_declared}
use Rattle.lowering_laws.proofs.ListedNames.{listed_differ}

-- ---- the name that an id finds

pub record Position (ids : List ℕ) (names : List (List ℕ)) (id : ℕ) : Type 0 where
  pub at : ℕ
  pub name : List ℕ
  pub is : found ids names id ≡ name
  pub there : slice_get names at ≡ Some name
  pub own : slice_get ids at ≡ Some id

position_by : (b : Bool) (first : ℕ) (ids : List ℕ) (name : List ℕ) (names : List (List ℕ)) (id : ℕ) → nat_eq first id ≡ b → (b ≡ false → Position ids names id) →
    Position (first ∷ ids) (name ∷ names) id
position_by true first ids name names id e others =
    record { at = 0; name = name; is = ap (λ b. if b then name else found ids names id) e; there = refl; own = ap (λ x. Some x) (eqb-true first id e) }
position_by false first ids name names id e others =
    let x = others refl in
    record { at = suc x.at; name = x.name; is = ap (λ b. if b then name else found ids names id) e ∙ x.is; there = x.there; own = x.own }

other_in : (a b : Bool) → a || b ≡ true → a ≡ false → b ≡ true
other_in true b h e = cc
other_in false b h e = h

pub position : (ids : List ℕ) (names : List (List ℕ)) (id : ℕ) → length ids ≡ length names → is_in ids id ≡ true → Position ids names id
position [] names id same h = absurd (true≢false (sym h))
position (first ∷ ids) [] id same h = absurd (omega (arith, same))
position (first ∷ ids) (name ∷ names) id same h =
    position_by (nat_eq first id) first ids name names id refl (λ e.
    position ids names id (omega (arith, same)) (other_in (nat_eq first id) (is_in ids id) h e))

-- ---- lengths

pub named_length : (externals : List (List ℕ)) (next : ℕ) (ws : List Wish) → length ws ≡ length (all_named externals next ws).made
named_length externals next [] = refl
named_length externals next (Keeps name ∷ ws) = ap suc (named_length externals next ws)
named_length externals next (Wants front ∷ ws) = ap suc (named_length externals (suc (t.free_from externals (t.numbered front) next)) ws)

pub both_length : (externals : List (List ℕ)) (strings : ℕ) (os : List source.DeclaredObject) (gs : List source.Function) →
    length (object_ids os ++ function_ids gs) ≡ length (object_wishes externals strings os ++ function_wishes gs)
both_length externals strings [] [] = refl
both_length externals strings [] (g ∷ gs) = ap suc (both_length externals strings [] gs)
both_length externals strings (o ∷ os) gs = ap suc (both_length externals (if t.is_string o.storage then suc strings else strings) os gs)

some_id : (a b : ℕ) → Some a ≡ Some b → a ≡ b
some_id a b e = cc

by_order : (externals : List (List ℕ)) (next : ℕ) (ws : List Wish) (ids : List ℕ) (id other i j : ℕ) (a b : List ℕ) → (i ≡ j) ⊎ ((i < j) ⊎ (j < i)) → AreGood externals ws → KeptApart ws →
    (all_named externals next ws).next + length externals < 2 ^ 64 → slice_get (all_named externals next ws).made i ≡ Some a → slice_get (all_named externals next ws).made j ≡ Some b →
    slice_get ids i ≡ Some id → slice_get ids j ≡ Some other → a ≡ b → id ≡ other
by_order externals next ws ids id other i j a b (inl e) good apart small f g own another same = some_id id other (sym own ∙ ap (slice_get ids) e ∙ another)
by_order externals next ws ids id other i j a b (inr (inl h)) good apart small f g own another same = absurd (listed_differ externals next ws i j a b good apart small h f g same)
by_order externals next ws ids id other i j a b (inr (inr h)) good apart small f g own another same = absurd (listed_differ externals next ws j i b a good apart small h g f (sym same))

pub declared_differ : (core : source.Core) (id other : ℕ) → behind_declared core + length (external_names core) < 2 ^ 64 → AreGood (external_names core) (wishes_of core) →
    KeptApart (wishes_of core) → is_declared core id ≡ true → is_declared core other ≡ true → (naming_of core).declared id ≡ (naming_of core).declared other → id ≡ other
declared_differ core id other small good apart h k same =
    let ids = object_ids core.objects ++ function_ids core.functions in
    let ws = object_wishes (external_names core) 0 core.objects ++ function_wishes core.functions in
    let names = (all_named (external_names core) 1 ws).made in
    let lengths = both_length (external_names core) 0 core.objects core.functions ∙ named_length (external_names core) 1 ws in
    let x = position ids names id lengths h in
    let y = position ids names other lengths k in
    by_order (external_names core) 1 ws ids id other x.at y.at x.name y.name (cases_order x.at y.at) good apart small x.there y.there x.own y.own (sym x.is ∙ same ∙ y.is)
