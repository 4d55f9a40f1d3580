-- How marks grow.
use Rattle.std.proofs.Common.{◌≡◌, ℕ, zero, suc, ◌+◌, Bool, true, false, List, [], ◌∷◌, ◌++◌, length, Some, refl, sym, ap, ◌∙◌, subst, ◌⊎◌, inl, inr, ⊎_elim, arith}
use Rattle.std.specs.Prelude.{slice_get, slice_set}
use Rattle.own_flow.specs.Marks.{unseen, due, Marked, Marks, Among, Grown}

pub among_left : (xs ys : List ℕ) (x : ℕ) → Among xs x → Among (xs ++ ys) x
among_left [] ys x h = absurd (h)
among_left (z ∷ xs) ys x h = ⊎_elim (λ e. inl e) (λ k. inr (among_left xs ys x k)) h

pub among_right : (xs ys : List ℕ) (x : ℕ) → Among ys x → Among (xs ++ ys) x
among_right [] ys x h = h
among_right (z ∷ xs) ys x h = inr (among_right xs ys x h)

pub among_split : (xs ys : List ℕ) (x : ℕ) → Among (xs ++ ys) x → Among xs x ⊎ Among ys x
among_split [] ys x h = inr h
among_split (z ∷ xs) ys x h = ⊎_elim (λ e. inl (inl e)) (λ k. ⊎_elim (λ a. inl (inr a)) (λ b. inr b) (among_split xs ys x k)) h

pub due_end : (w : ℕ → ℕ) (xs : List ℕ) (j : ℕ) → due w (xs ++ j ∷ []) ≡ due w xs + w j
due_end w [] j = omega arith
due_end w (x ∷ xs) j = omega (arith, due_end w xs j)

some_is : (a b : Bool) → Some a ≡ Some b → a ≡ b
some_is a b h = cc

pub unseen_set : (w : ℕ → ℕ) (seen : List Bool) (j : ℕ) → slice_get seen j ≡ Some false → unseen w (slice_set seen j true) + w j ≡ unseen w seen
unseen_set w [] j h = absurd (cc)
unseen_set w (b ∷ bs) zero h = let e : b ≡ false = some_is b false h in rw e (omega arith)
unseen_set w (b ∷ bs) (suc j) h = omega (arith, unseen_set (λ i. w (suc i)) bs j h)

set_self : (seen : List Bool) (j : ℕ) → slice_get seen j ≡ Some false → Marked (slice_set seen j true) j
set_self [] j h = absurd (cc)
set_self (b ∷ bs) zero h = refl
set_self (b ∷ bs) (suc j) h = set_self bs j h

set_keeps : (seen : List Bool) (j x : ℕ) → Marked seen x → Marked (slice_set seen j true) x
set_keeps [] j x h = h
set_keeps (b ∷ bs) zero zero h = refl
set_keeps (b ∷ bs) zero (suc x) h = h
set_keeps (b ∷ bs) (suc j) zero h = h
set_keeps (b ∷ bs) (suc j) (suc x) h = set_keeps bs j x h

set_from : (seen : List Bool) (j x : ℕ) → Marked (slice_set seen j true) x → Marked seen x ⊎ (x ≡ j)
set_from [] j x h = inl h
set_from (b ∷ bs) zero zero h = inr refl
set_from (b ∷ bs) zero (suc x) h = inl h
set_from (b ∷ bs) (suc j) zero h = inl h
set_from (b ∷ bs) (suc j) (suc x) h = ⊎_elim (λ k. inl k) (λ k. inr (ap suc k)) (set_from bs j x h)

set_len : (seen : List Bool) (j : ℕ) → length (slice_set seen j true) ≡ length seen
set_len [] j = refl
set_len (b ∷ bs) zero = refl
set_len (b ∷ bs) (suc j) = omega (arith, set_len bs j)

pub grown_none : (A : ℕ → Type 0) (seen : List Bool) (waiting : List ℕ) → ((x : ℕ) → A x → ⊥) → Grown A seen waiting seen waiting
grown_none A seen waiting h = record { len = refl; keeps = λ x k. k; from = λ x k. inl k; all = λ x a. absurd (h x a); waits = λ x k. inl k; stays = λ x k. k; marked = λ x k. inl k; budget = λ w. refl }

pub grown_mark : (j : ℕ) (seen : List Bool) (waiting : List ℕ) (seen' : List Bool) (waiting' : List ℕ) → Marks j seen waiting seen' waiting' → Grown (λ x. x ≡ j) seen waiting seen' waiting'
grown_mark j seen waiting seen' waiting' h = ⊎_elim
    (λ k. subst (λ s. Grown (λ x. x ≡ j) seen waiting s waiting') (sym k.1) (subst (λ s. Grown (λ x. x ≡ j) seen waiting seen s) (sym k.2)
    (record { len = refl; keeps = λ x m. m; from = λ x m. inl m; all = λ x e. subst (λ y. Marked seen y) (sym e) k.0; waits = λ x m. inl m; stays = λ x m. m; marked = λ x m. inl m; budget = λ w. refl })))
    (λ k. subst (λ s. Grown (λ x. x ≡ j) seen waiting s waiting') (sym k.1) (subst (λ s. Grown (λ x. x ≡ j) seen waiting (slice_set seen j true) s) (sym k.2)
    (record {
      len = set_len seen j;
      keeps = λ x m. set_keeps seen j x m;
      from = λ x m. set_from seen j x m;
      all = λ x e. subst (λ y. Marked (slice_set seen j true) y) (sym e) (set_self seen j k.0);
      waits = λ x m. ⊎_elim (λ a. inl a) (λ e. inr (among_right waiting (j ∷ []) x (inl e))) (set_from seen j x m);
      stays = λ x m. among_left waiting (j ∷ []) x m;
      marked = λ x m. ⊎_elim (λ a. inl a) (λ b. ⊎_elim (λ e. inr (subst (λ y. Marked (slice_set seen j true) y) (sym e) (set_self seen j k.0))) (λ z. absurd (z)) b) (among_split waiting (j ∷ []) x m);
      budget = λ w. let p = unseen_set w seen j k.0 in let q = due_end w waiting j in omega (arith, p, q);
    })))
    h

pub grown_then : (A B C : ℕ → Type 0) (s0 : List Bool) (k0 : List ℕ) (s1 : List Bool) (k1 : List ℕ) (s2 : List Bool) (k2 : List ℕ) → Grown A s0 k0 s1 k1 → Grown B s1 k1 s2 k2 → ((x : ℕ) → A x → C x) → ((x : ℕ) → B x → C x) → ((x : ℕ) → C x → A x ⊎ B x) → Grown C s0 k0 s2 k2
grown_then A B C s0 k0 s1 k1 s2 k2 g h a b c = record {
  len = h.len ∙ g.len;
  keeps = λ x m. h.keeps x (g.keeps x m);
  from = λ x m. ⊎_elim (λ y. ⊎_elim (λ z. inl z) (λ z. inr (a x z)) (g.from x y)) (λ y. inr (b x y)) (h.from x m);
  all = λ x m. ⊎_elim (λ y. h.keeps x (g.all x y)) (λ y. h.all x y) (c x m);
  waits = λ x m. ⊎_elim (λ y. ⊎_elim (λ z. inl z) (λ z. inr (h.stays x z)) (g.waits x y)) (λ y. inr y) (h.waits x m);
  stays = λ x m. h.stays x (g.stays x m);
  marked = λ x m. ⊎_elim (λ y. ⊎_elim (λ z. inl z) (λ z. inr (h.keeps x z)) (g.marked x y)) (λ y. inr y) (h.marked x m);
  budget = λ w. h.budget w ∙ g.budget w;
}

pub grown_weak : (A C : ℕ → Type 0) (s0 : List Bool) (k0 : List ℕ) (s1 : List Bool) (k1 : List ℕ) → ((x : ℕ) → A x → C x) → ((x : ℕ) → C x → A x) → Grown A s0 k0 s1 k1 → Grown C s0 k0 s1 k1
grown_weak A C s0 k0 s1 k1 a c g = record { len = g.len; keeps = g.keeps; from = λ x m. ⊎_elim (λ y. inl y) (λ y. inr (a x y)) (g.from x m); all = λ x m. g.all x (c x m); waits = g.waits; stays = g.stays; marked = g.marked; budget = g.budget }
