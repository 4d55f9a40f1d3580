-- Machines that read a text step by step: what two readings of one text reach at their ends is the same.
use Rattle.std.proofs.Common.{◌≡◌, Option, Some, None, refl, sym, ap, ◌∙◌, subst}

-- from a state to a state, by steps
pub data Reach (S : Type 0) (step : S → Option S) : S → S → Type 0 where
  here : (s t : S) → s ≡ t → Reach S step s t
  goes : (s t u : S) → step s ≡ Some t → Reach S step t u → Reach S step s u

pub by : {S : Type 0} (step : S → Option S) (s t u : S) → step s ≡ Some t → Reach S step t u → Reach S step s u
by step s t u e r = goes s t u e r

pub stays : {S : Type 0} (step : S → Option S) (s : S) → Reach S step s s
stays step s = here s s refl

pub onwards : {S : Type 0} (step : S → Option S) (s t u : S) → Reach S step s t → Reach S step t u → Reach S step s u
onwards {S = S} step s t u (here _ _ e) r = subst (λ v. Reach S step v u) (sym e) r
onwards step s t u (goes _ v _ e q) r = goes s v u e (onwards step v t u q r)

some_none : {S : Type 0} (s : S) (o : Option S) → o ≡ Some s → o ≡ None → ⊥
some_none s o p q = let h : Some s ≡ None = sym p ∙ q in cc

some_some : {S : Type 0} (s t : S) (o : Option S) → o ≡ Some s → o ≡ Some t → s ≡ t
some_some s t o p q = let h : Some s ≡ Some t = sym p ∙ q in cc

-- two ends of one reading
pub one_end : {S : Type 0} (step : S → Option S) (s t u : S) → Reach S step s t → Reach S step s u → step t ≡ None → step u ≡ None → t ≡ u
one_end step s t u (here _ _ e) (here _ _ f) p q = sym e ∙ f
one_end step s t u (here _ _ e) (goes _ v _ f r) p q = absurd (some_none v (step s) f (ap step e ∙ p))
one_end step s t u (goes _ v _ e q) (here _ _ f) m n = absurd (some_none v (step s) e (ap step f ∙ n))
one_end {S = S} step s t u (goes _ v _ e q) (goes _ w _ f r) m n =
    one_end step v t u q (subst (λ x. Reach S step x u) (some_some w v (step s) f e) r) m n
