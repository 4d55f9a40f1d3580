-- What `unresolved` names is the first of the uses that need a definition.
use Rattle.std.proofs.Common.{◌≡◌, ℕ, zero, suc, ◌<◌, ◌≤◌, Bool, true, false, nat_lt, List, [], ◌∷◌, Option, Some, None, option_map, slice_get, refl, ap, sym, ◌∙◌, cond, arith, inl, inr, ◌⊎◌}
use Rattle.cake_base.specs.declared.places.Place.{Place}
use Rattle.cake_base.specs.declared.rules.Fault.{Fault}
use Rattle.model_scopes.specs.Scopes.{Declared, Scopes}
use Rattle.model_scopes.specs.DeclarationRules.{constraint_at}
use Rattle.model_scopes.specs.NotedUses.{first_place, first_of, unmet_use, first_undefined, unresolved}

place_left : (p q : Place) → (first_place p q).order ≤ p.order
place_left p q = by (nat_lt q.order p.order) refl
  where
    by : (t : Bool) → nat_lt q.order p.order ≡ t → (cond t q p).order ≤ p.order
    by true e = grind (arith, e)
    by false e = omega arith

place_right : (p q : Place) → (first_place p q).order ≤ q.order
place_right p q = by (nat_lt q.order p.order) refl
  where
    by : (t : Bool) → nat_lt q.order p.order ≡ t → (cond t q p).order ≤ q.order
    by true e = omega arith
    by false e = grind (arith, e)

place_either : (p q : Place) → (first_place p q ≡ p) ⊎ (first_place p q ≡ q)
place_either p q = by (nat_lt q.order p.order)
  where
    by : (t : Bool) → (cond t q p ≡ p) ⊎ (cond t q p ≡ q)
    by true = inr refl
    by false = inl refl

abbrev Earlier : Option Place → Place → Type 0
Earlier o p = (q : Place) × (o ≡ Some q) × (q.order ≤ p.order)

left : (p : Place) (o : Option Place) → Earlier (first_of (Some p) o) p
left p None = (p, refl, omega arith)
left p (Some q) = (first_place p q, refl, place_left p q)

right : (o : Option Place) (q : Place) → Earlier (first_of o (Some q)) q
right None q = (q, refl, omega arith)
right (Some p) q = (first_place p q, refl, place_right p q)

first_before : (es : List (ℕ × Declared)) (i : ℕ) (e : ℕ × Declared) (p : Place) → slice_get es i ≡ Some e → unmet_use e.1 ≡ Some p → Earlier (first_undefined es) p
first_before [] i e p h u = cc
first_before (x ∷ es) zero e p h u =
    let same : x ≡ e = cc in
    let found = left p (first_undefined es) in
    (found.0, ap (λ (o : Option Place). first_of o (first_undefined es)) (ap (λ (y : ℕ × Declared). unmet_use y.1) same ∙ u) ∙ found.1, found.2)
first_before (x ∷ es) (suc i) e p h u =
    let rest = first_before es i e p h u in
    let found = right (unmet_use x.1) rest.0 in
    (found.0, ap (first_of (unmet_use x.1)) rest.1 ∙ found.1, omega (arith, found.2, rest.2))

either : (a b : Option Place) (q : Place) → first_of a b ≡ Some q → (a ≡ Some q) ⊎ (b ≡ Some q)
either None b q h = inr h
either (Some p) None q h = inl h
either (Some p) (Some r) q h = by (place_either p r)
  where
    by : (first_place p r ≡ p) ⊎ (first_place p r ≡ r) → (let o : Option Place = Some p in o ≡ Some q) ⊎ (let o : Option Place = Some r in o ≡ Some q)
    by (inl e) = inl (ap (λ (x : Place). let o : Option Place = Some x in o) (sym e) ∙ h)
    by (inr e) = inr (ap (λ (x : Place). let o : Option Place = Some x in o) (sym e) ∙ h)

abbrev Used : List (ℕ × Declared) → Place → Type 0
Used es q = (i : ℕ) × (e : ℕ × Declared) × (slice_get es i ≡ Some e) × (unmet_use e.1 ≡ Some q)

first_is_use : (es : List (ℕ × Declared)) (q : Place) → first_undefined es ≡ Some q → Used es q
first_is_use [] q h = cc
first_is_use (x ∷ es) q h = by (either (unmet_use x.1) (first_undefined es) q h) (λ e. first_is_use es q e)
  where
    by : (unmet_use x.1 ≡ Some q) ⊎ (first_undefined es ≡ Some q) → (first_undefined es ≡ Some q → Used es q) → Used (x ∷ es) q
    by (inl e) rest = (0, x, refl, e)
    by (inr e) rest = let r = rest e in (suc r.0, r.1, r.2, r.3)

pub unresolved_is_first : (s : Scopes) (i : ℕ) (e : ℕ × Declared) (p : Place) → slice_get s.declared i ≡ Some e → unmet_use e.1 ≡ Some p
    → (f : Fault) × (unresolved s ≡ Some f) × (f.place.order ≤ p.order)
unresolved_is_first s i e p h u =
    let found = first_before s.declared i e p h u in
    (constraint_at found.0 8, ap (option_map (λ q. constraint_at q 8)) found.1, found.2)

mapped : (o : Option Place) (f : Fault) → option_map (λ q. constraint_at q 8) o ≡ Some f → o ≡ Some f.place
mapped None f h = cc
mapped (Some q) f h = let same : constraint_at q 8 ≡ f = cc in ap (λ (x : Fault). let o : Option Place = Some x.place in o) same

pub unresolved_is_use : (s : Scopes) (f : Fault) → unresolved s ≡ Some f → (i : ℕ) × (e : ℕ × Declared) × (slice_get s.declared i ≡ Some e) × (unmet_use e.1 ≡ Some f.place)
unresolved_is_use s f h = first_is_use s.declared f.place (mapped (first_undefined s.declared) f h)
