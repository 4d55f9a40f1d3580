-- The order of ranked findings is the order of findings.
use Rattle.std.proofs.Common.{◌≡◌, ℕ, ◌<◌, List, [], ◌∷◌, ◌++◌, length, Option, Some, refl, sym, ap, ◌∙◌, subst, ◌⊎◌, inl, inr, ⊎_elim, arith, Contains, ◌↔◌, map, get_or}
use Rattle.std.specs.Prelude.{AllPairs}
use Rattle.std.proofs.Common.{Ordering, Less, Equal, Greater}
use Rattle.std.specs.Ordering.{nat_cmp, ordering_then, MatchOrdering}
use Rattle.std.specs.Cmp.{ranks}
use Rattle.cake_base.specs.declared.rules.Family.{Family}
use Rattle.cake_base.specs.declared.rules.Family.TheVariants as family
use Rattle.cake_base.specs.declared.rules.Fault.{Fault}
use Rattle.own_flow.specs.Findings.{family_rank, Precedes}
use Rattle.own_flow.specs.declared.ranks.FamilyRank.{FamilyRank}
use Rattle.own_flow.specs.declared.ranks.FamilyRank.TheVariants as rank
use Rattle.own_flow.specs.declared.ranks.Ranked.{Ranked}
use Rattle.own_flow.specs.Ranks.{rank_of, family_of, ranked, fault_of}
use Rattle.own_flow.specs.contracts.ranks.RankedOrd.TheImpl.{ghosts}
use Rattle.own_flow.specs.contracts.ranks.FamilyRankOrd.TheImpl.{ghosts as families}
use Rattle.std.specs.List.Sorted.{IsStrictlySortedBy}
use Rattle.std.proofs.lemmas.List.{get_or-map}
use Rattle.std.proofs.lemmas.List.Elements.{Contains-push, Contains-push_cases, Contains-append_left}
use Rattle.std.proofs.lemmas.Map.Keys.{Less-from_sorted}

by_order : (a b : ℕ) (v o : Ordering) → MatchOrdering v (a < b) (a ≡ b) (b < a) → ordering_then v o ≡ Less → (a < b) ⊎ ((a ≡ b) × (o ≡ Less))
by_order a b Less o m h = inl m
by_order a b Equal o m h = inr (m, h)
by_order a b Greater o m h = absurd (cc)

split : (a b : ℕ) (o : Ordering) → ordering_then (nat_cmp a b) o ≡ Less → (a < b) ⊎ ((a ≡ b) × (o ≡ Less))
split a b o h = by_order a b (nat_cmp a b) o (ranks a b) h

family_less : (x y : FamilyRank) → families.cmp x y ≡ Less → family_rank (family_of x) < family_rank (family_of y)
family_less rank.P rank.P h = absurd (cc)
family_less rank.P rank.L h = omega arith
family_less rank.P rank.S h = omega arith
family_less rank.P rank.C h = omega arith
family_less rank.P rank.F h = omega arith
family_less rank.P rank.G h = omega arith
family_less rank.L rank.P h = absurd (cc)
family_less rank.L rank.L h = absurd (cc)
family_less rank.L rank.S h = omega arith
family_less rank.L rank.C h = omega arith
family_less rank.L rank.F h = omega arith
family_less rank.L rank.G h = omega arith
family_less rank.S rank.P h = absurd (cc)
family_less rank.S rank.L h = absurd (cc)
family_less rank.S rank.S h = absurd (cc)
family_less rank.S rank.C h = omega arith
family_less rank.S rank.F h = omega arith
family_less rank.S rank.G h = omega arith
family_less rank.C rank.P h = absurd (cc)
family_less rank.C rank.L h = absurd (cc)
family_less rank.C rank.S h = absurd (cc)
family_less rank.C rank.C h = absurd (cc)
family_less rank.C rank.F h = omega arith
family_less rank.C rank.G h = omega arith
family_less rank.F rank.P h = absurd (cc)
family_less rank.F rank.L h = absurd (cc)
family_less rank.F rank.S h = absurd (cc)
family_less rank.F rank.C h = absurd (cc)
family_less rank.F rank.F h = absurd (cc)
family_less rank.F rank.G h = omega arith
family_less rank.G rank.P h = absurd (cc)
family_less rank.G rank.L h = absurd (cc)
family_less rank.G rank.S h = absurd (cc)
family_less rank.G rank.C h = absurd (cc)
family_less rank.G rank.F h = absurd (cc)
family_less rank.G rank.G h = absurd (cc)

-- ranks in their order are findings in their order
below : (x y : Ranked) → ghosts.cmp x y ≡ Less → Precedes (fault_of x) (fault_of y)
below x y h = ⊎_elim (λ l. inl l) (λ e. inr (
  e.0,
  ⊎_elim (λ l. inl l) (λ f. inr (
    f.0,
    ⊎_elim (λ l. inl l) (λ g. inr (
      g.0,
      ⊎_elim (λ l. inl l) (λ i. inr (
        i.0,
        ⊎_elim (λ l. inl l) (λ j. inr (j.0, inl (family_less x.family y.family j.1)))
            (split x.column y.column _ i.1),
      ))
          (split x.line y.line _ g.1),
    ))
        (split x.file y.file _ f.1),
  ))
      (split x.number y.number _ e.1),
))
    (split x.order y.order _ h)

-- a finding has one rank
family_back : (f : Family) → family_of (rank_of f) ≡ f
family_back family.P = refl
family_back family.L = refl
family_back family.S = refl
family_back family.C = refl
family_back family.F = refl
family_back family.G = refl

rank_back : (r : FamilyRank) → rank_of (family_of r) ≡ r
rank_back rank.P = refl
rank_back rank.L = refl
rank_back rank.S = refl
rank_back rank.C = refl
rank_back rank.F = refl
rank_back rank.G = refl

pub fault_back : (f : Fault) → fault_of (ranked f) ≡ f
fault_back f = ap (λ k. record { place = f.place; rule = record { family = k; number = f.rule.number } }) (family_back f.rule.family)

pub ranked_back : (r : Ranked) → ranked (fault_of r) ≡ r
ranked_back r = ap (λ k. record { order = r.order; number = r.number; file = r.file; line = r.line; column = r.column; family = k }) (rank_back r.family)

some_same : {X : Type 0} (x y : X) → Some x ≡ Some y → x ≡ y
some_same x y h = cc

-- a list after the rank of a finding was added
pub added : (old new : List Ranked) (o : Option Fault) (f : Fault) (added : Ranked) → o ≡ Some f → added ≡ ranked f → new ≡ old ++ added ∷ [] → (r : Ranked) → Contains new r ↔ (Contains old r ⊎ (o ≡ Some (fault_of r)))
added old new o f one e k n r = (
  λ h. ⊎_elim (λ c. inl c) (λ q. inr (e ∙ ap Some (sym (fault_back f) ∙ ap fault_of (sym k ∙ q)))) (Contains-push_cases old one r (subst (λ xs. Contains xs r) n h)),
  λ h. subst (λ xs. Contains xs r) (sym n) (⊎_elim
      (λ c. Contains-append_left old (one ∷ []) r c)
      (λ q. let s : one ≡ r = k ∙ ap ranked (some_same f (fault_of r) (sym e ∙ q)) ∙ ranked_back r in subst (λ x. Contains (old ++ one ∷ []) x) s (Contains-push old one))
      h),
)

length_map : (f : Ranked → Fault) (xs : List Ranked) → length (map f xs) ≡ length xs
length_map f [] = refl
length_map f (x ∷ xs) = omega (arith, length_map f xs)

-- the findings of a list of ranks
pub unranked : (list : List Ranked) (f : Fault) → Contains (map fault_of list) f ↔ Contains list (ranked f)
unranked list f = (
  λ h. (
    h.0,
    (let l : h.0 < length list = omega (arith, h.1, length_map fault_of list) in l),
    (let e : fault_of (get_or list h.0 (ranked f)) ≡ f = sym (get_or-map fault_of list h.0 (ranked f) f (omega (arith, h.1, length_map fault_of list))) ∙ h.2 in
        sym (ranked_back (get_or list h.0 (ranked f))) ∙ ap ranked e),
  ),
  λ h. (
    h.0,
    (let l : h.0 < length (map fault_of list) = omega (arith, h.1, length_map fault_of list) in l),
    get_or-map fault_of list h.0 (ranked f) f h.1 ∙ ap fault_of h.2 ∙ fault_back f,
  ),
)

pub in_order : (list : List Ranked) → IsStrictlySortedBy ghosts.cmp list → AllPairs Precedes (map fault_of list)
in_order list s i j d l m =
    let n : j < length list = omega (arith, m, length_map fault_of list) in
    let k : i < length list = omega (arith, l, n) in
    subst (λ f. Precedes f (get_or (map fault_of list) j d)) (sym (get_or-map fault_of list i (ranked d) d k))
    (subst (λ f. Precedes (fault_of (get_or list i (ranked d))) f) (sym (get_or-map fault_of list j (ranked d) d n))
    (below (get_or list i (ranked d)) (get_or list j (ranked d)) (Less-from_sorted ghosts.cmp list i j (ranked d) s l n)))
