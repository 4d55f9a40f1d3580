-- What is declared, by its id, as the entries of a map.
use Rattle.std.proofs.Common.{◌≡◌, ℕ, zero, suc, ◌+◌, ◌-◌, ◌<◌, Bool, true, false, nat_eq, nat_lt, List, [], ◌∷◌, ◌++◌, length, drop, drop-cons, add-one, get_or, Option, Some, None, refl, ap, sym, subst, ◌∙◌, cond, not, arith, slice_get, IsTrue}
use Rattle.std.specs.List.{position, position_or_len}
use Rattle.std.specs.Option.{option_map, is_some}
use Rattle.std.specs.Map.{keys_of, values_of, lookup as lookup_by}
use Rattle.indexmap.specs.IndexMap.{set_value_at}
use Rattle.cake_base.specs.declared.places.Place.{Place}
use Rattle.model_scopes.specs.Scopes.{Declared, with_id, is_declared, changed}
use Rattle.model_scopes.specs.NotedUses.{first_undefined, first_of, unmet_use}

less_next : (a b : ℕ) → nat_lt (suc a) (suc b) ≡ nat_lt a b
less_next a b = grind arith

less_zero : (b : ℕ) → nat_lt 0 (suc b) ≡ true
less_zero b = grind arith

first_of_test : (b : Bool) (n len : ℕ) → cond (nat_lt (cond (not b) (1 + n) 0) (suc len)) (Some (cond (not b) (1 + n) 0)) None ≡ cond b (Some 0) (option_map suc (cond (nat_lt n len) (Some n) None))
first_of_test true n len = ap (λ u. cond u (Some 0) None) (less_zero len)
first_of_test false n len = grind (arith, less_next)

position_first : {X : Type 0} (p : X → Bool) (x : X) (xs : List X) → position p (x ∷ xs) ≡ cond (p x) (Some 0) (option_map suc (position p xs))
position_first p x xs = first_of_test (p x) (position_or_len p xs) (length xs)

later_some : (o : Option ℕ) (i : ℕ) → option_map suc o ≡ Some i → (j : ℕ) × (i ≡ suc j) × (o ≡ Some j)
later_some None i h = cc
later_some (Some j) i h = (j, cc, refl)

pub lookup_id : (id : ℕ) (es : List (ℕ × Declared)) → lookup_by (nat_eq id) es ≡ with_id id es
lookup_id id [] = refl
lookup_id id (e ∷ es) = ap (λ o. cond (nat_eq id e.0) (Some e.1) o) (lookup_id id es)

-- what stands in a rank is what its id has
pub same_at : (es seen : List (ℕ × Declared)) (rank id : ℕ) (d : Declared) → es ≡ seen → Some (id, d) ≡ slice_get es rank → lookup_by (nat_eq id) es ≡ Some d
    → (e : ℕ × Declared) → slice_get seen rank ≡ Some e → with_id e.0 seen ≡ Some e.1
same_at es seen rank id d view at found e h =
    let same : Some (id, d) ≡ Some e = at ∙ ap (λ (xs : List (ℕ × Declared)). slice_get xs rank) view ∙ h in
    let entry : (id, d) ≡ e = cc in
    subst (λ (x : ℕ × Declared). with_id x.0 seen ≡ Some x.1) entry (ap (with_id id) (sym view) ∙ sym (lookup_id id es) ∙ found)

pub declared_at : (es : List (ℕ × Declared)) (rank id : ℕ) (d : Declared) → Some (id, d) ≡ slice_get es rank
    → ((e : ℕ × Declared) → slice_get es rank ≡ Some e → with_id e.0 es ≡ Some e.1) → IsTrue (is_declared id es)
declared_at es rank id d at same = ap is_some (same (id, d) (sym at))

-- a write at the place of an id
pub changed_at : (f : Declared → Declared) (id : ℕ) (es : List (ℕ × Declared)) (i : ℕ) (d w : Declared) → position (nat_eq id) (keys_of es) ≡ Some i
    → slice_get (values_of es) i ≡ Some d → w ≡ f d → set_value_at es i w ≡ changed f id es
changed_at f id [] i d w at is made = cc
changed_at f id (e ∷ es) i d w at is made =
    (elim (nat_eq id e.0) as (λ t. cond t (Some 0) (option_map suc (position (nat_eq id) (keys_of es))) ≡ Some i → set_value_at (e ∷ es) i w ≡ cond t ((e.0, f e.1) ∷ es) (e ∷ changed f id es)) [
      | true ↦ λ h. let z : i ≡ 0 = cc in
          let same : slice_get (e.1 ∷ values_of es) 0 ≡ Some d = ap (λ n. slice_get (e.1 ∷ values_of es) n) (sym z) ∙ is in
          let same1 : e.1 ≡ d = cc in
          ap (λ n. set_value_at (e ∷ es) n w) z ∙ ap (λ (x : Declared). let p : ℕ × Declared = (e.0, x) in p ∷ es) (made ∙ ap f (sym same1))
      | false ↦ λ h. let l = later_some (position (nat_eq id) (keys_of es)) i h in
          let is2 : slice_get (values_of es) l.0 ≡ Some d = ap (λ n. slice_get (e.1 ∷ values_of es) n) (sym l.1) ∙ is in
          ap (λ n. set_value_at (e ∷ es) n w) l.1 ∙ ap (λ z. e ∷ z) (changed_at f id es l.0 d w l.2 is2 made)
    ])
    (sym (position_first (nat_eq id) e.0 (keys_of es)) ∙ at)

-- an id that isn't there changes nothing
pub changed_none : (f : Declared → Declared) (id : ℕ) (es : List (ℕ × Declared)) → lookup_by (nat_eq id) es ≡ None → changed f id es ≡ es
changed_none f id [] = λ h. refl
changed_none f id (e ∷ es) =
    elim (nat_eq id e.0) as (λ t. cond t (Some e.1) (lookup_by (nat_eq id) es) ≡ None → cond t ((e.0, f e.1) ∷ es) (e ∷ changed f id es) ≡ e ∷ es) [
      | true ↦ λ h. cc
      | false ↦ λ h. ap (λ z. e ∷ z) (changed_none f id es h)
    ]

pub none_by : {A : Type 0} (p : Option A) → false ≡ is_some p → p ≡ None
none_by None h = refl
none_by (Some x) h = cc

-- only what the id has counts
pub changed_same : (f g : Declared → Declared) (id : ℕ) (es : List (ℕ × Declared)) (d : Declared) → with_id id es ≡ Some d → f d ≡ g d → changed f id es ≡ changed g id es
changed_same f g id [] d = λ h e. refl
changed_same f g id (e ∷ es) d =
    elim (nat_eq id e.0) as (λ t. cond t (Some e.1) (with_id id es) ≡ Some d → f d ≡ g d → cond t ((e.0, f e.1) ∷ es) (e ∷ changed f id es) ≡ cond t ((e.0, g e.1) ∷ es) (e ∷ changed g id es)) [
      | true ↦ λ h k. let same : e.1 ≡ d = cc in
          ap (λ (x : Declared). let p : ℕ × Declared = (e.0, x) in p ∷ es) (ap f same ∙ k ∙ ap g (sym same))
      | false ↦ λ h k. ap (λ z. e ∷ z) (changed_same f g id es d h k)
    ]

-- ---- a step of the search of the first use

pub undefined_step : (es : List (ℕ × Declared)) (i : ℕ) (d : Declared) → slice_get (values_of es) i ≡ Some d
    → first_undefined (drop i es) ≡ first_of (unmet_use d) (first_undefined (drop (i + 1) es))
undefined_step [] i d h = cc
undefined_step (e ∷ es) zero d h = let same : e.1 ≡ d = cc in ap (λ (x : Declared). first_of (unmet_use x) (first_undefined es)) same
undefined_step (e ∷ es) (suc i) d h = let z : suc i + 1 ≡ suc (i + 1) = omega arith in rw z (undefined_step es i d h)

pub undefined_at : (es : List (ℕ × Declared)) (i : ℕ) (d : Declared) (rest one all : Option Place) → 0 < i → slice_get (values_of es) (i - 1) ≡ Some d
    → one ≡ unmet_use d → all ≡ first_of one rest → rest ≡ first_undefined (drop i es) → all ≡ first_undefined (drop (i - 1) es)
undefined_at es i d rest one all h is unmet both tail =
    let z : i - 1 + 1 ≡ i = omega (arith, h) in
    both ∙ ap (λ o. first_of o rest) unmet ∙ ap (first_of (unmet_use d)) (tail ∙ ap (λ n. first_undefined (drop n es)) (sym z)) ∙ sym (undefined_step es (i - 1) d is)
