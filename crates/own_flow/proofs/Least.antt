-- The search on numbers: what is marked is reached, and goes on unless it waits.
use Rattle.std.proofs.Common.{◌≡◌, ℕ, zero, suc, ◌+◌, ◌<◌, Bool, false, List, [], ◌∷◌, ◌++◌, length, refl, sym, ap, ◌∙◌, subst, ◌⊎◌, inl, inr, ⊎_elim, arith}
use Rattle.std.specs.Prelude.{replicate}
use Rattle.own_flow.specs.Marks.{unseen, due, Marked, Among, Grown}
use Rattle.own_flow.proofs.Growth.{among_left, among_right, among_split, due_end}

abbrev pub falses : ℕ → List Bool
falses n = replicate n false

-- what follows from 0, step by step
pub data Reach (Next : ℕ → ℕ → Type 0) : ℕ → Type 0 where
  start : Reach Next 0
  step : {i x : ℕ} → Reach Next i → Next i x → Reach Next x

pub record Inv (Next : ℕ → ℕ → Type 0) (count : ℕ) (seen : List Bool) (waiting : List ℕ) : Type 0 where
  pub len : length seen ≡ count
  pub root : Marked seen 0
  pub sound : (x : ℕ) → Marked seen x → Reach Next x
  pub waits : (x : ℕ) → Among waiting x → Marked seen x
  pub closed : (x : ℕ) → Marked seen x → Among waiting x ⊎ ((y : ℕ) → Next x y → Marked seen y)

none_marked : (n x : ℕ) → Marked (falses n) x → ⊥
none_marked zero x h = absurd (cc)
none_marked (suc n) zero h = absurd (cc)
none_marked (suc n) (suc x) h = none_marked n x h

falses_len : (n : ℕ) → length (falses n) ≡ n
falses_len zero = refl
falses_len (suc n) = omega (arith, falses_len n)

pub inv_start : (Next : ℕ → ℕ → Type 0) (count : ℕ) (seen : List Bool) (waiting : List ℕ) → Grown (λ x. x ≡ 0) (falses count) [] seen waiting → Inv Next count seen waiting
inv_start Next count seen waiting g = record {
  len = g.len ∙ falses_len count;
  root = g.all 0 refl;
  sound = λ x m. ⊎_elim (λ k. absurd (none_marked count x k)) (λ e. subst (λ y. Reach Next y) (sym e) start) (g.from x m);
  waits = λ x m. ⊎_elim (λ k. absurd (k)) (λ k. k) (g.marked x m);
  closed = λ x m. ⊎_elim (λ k. absurd (none_marked count x k)) (λ k. inl k) (g.waits x m);
}

pub inv_step : (Next : ℕ → ℕ → Type 0) (count i : ℕ) (s : List Bool) (all k : List ℕ) (s' : List Bool) (k' : List ℕ) → all ≡ k ++ i ∷ [] → Inv Next count s all → Grown (Next i) s k s' k' → Inv Next count s' k'
inv_step Next count i s all k s' k' e h g =
    let mi : Marked s i = h.waits i (subst (λ z. Among z i) (sym e) (among_right k (i ∷ []) i (inl refl))) in
    record {
      len = g.len ∙ h.len;
      root = g.keeps 0 h.root;
      sound = λ x m. ⊎_elim (λ a. h.sound x a) (λ n. step (h.sound i mi) n) (g.from x m);
      waits = λ x m. ⊎_elim (λ a. g.keeps x (h.waits x (subst (λ z. Among z x) (sym e) (among_left k (i ∷ []) x a)))) (λ b. b) (g.marked x m);
      closed = λ x m. ⊎_elim
          (λ a. ⊎_elim
          (λ b. ⊎_elim (λ u. inl (g.stays x u)) (λ v. ⊎_elim (λ q. inr (λ y n. g.all y (subst (λ z. Next z y) q n))) (λ z. absurd (z)) v) (among_split k (i ∷ []) x (subst (λ z. Among z x) e b)))
          (λ c. inr (λ y n. g.keeps y (c y n)))
          (h.closed x a))
          (λ b. inl b)
          (g.waits x m);
    }

reached_marked : (Next : ℕ → ℕ → Type 0) (count : ℕ) (seen : List Bool) → Inv Next count seen [] → {x : ℕ} → Reach Next x → Marked seen x
reached_marked Next count seen h start = h.root
reached_marked Next count seen h (step {i = i} {x = x} r n) = ⊎_elim (λ a. absurd (a)) (λ c. c x n) (h.closed i (reached_marked Next count seen h r))

pub inv_done : (Next : ℕ → ℕ → Type 0) (count : ℕ) (seen : List Bool) (waiting : List ℕ) → length waiting ≡ 0 → Inv Next count seen waiting → (x : ℕ) → (Marked seen x → Reach Next x) × (Reach Next x → Marked seen x)
inv_done Next count seen [] e h = λ x. (h.sound x, λ r. reached_marked Next count seen h r)
inv_done Next count seen (j ∷ js) e h = absurd (omega (arith, e))

pub due_last : (w : ℕ → ℕ) (all k : List ℕ) (i : ℕ) → all ≡ k ++ i ∷ [] → due w all ≡ due w k + w i
due_last w all k i e = ap (due w) e ∙ due_end w k i

pub step_less : (i : ℕ) (A : ℕ → Type 0) (s : List Bool) (all k : List ℕ) (s' : List Bool) (k' : List ℕ) → all ≡ k ++ i ∷ [] → Grown A s k s' k' → unseen (λ i. 1) s' + due (λ i. 1) k' < unseen (λ i. 1) s + due (λ i. 1) all
step_less i A s all k s' k' e g = let d = due_last (λ i. 1) all k i e in omega (arith, d, g.budget (λ i. 1))
