-- The items of a list from a rank on.
use Rattle.std.proofs.Common.{◌≡◌, ℕ, zero, suc, ◌+◌, ◌<◌, List, [], ◌∷◌, length, drop, slice_get, Some, None, ap, ◌∙◌, arith}

pub drop_get : {A : Type 0} (xs : List A) (i : ℕ) (x : A) → slice_get xs i ≡ Some x → drop i xs ≡ x ∷ drop (i + 1) xs
drop_get [] i x e = absurd (let h : None ≡ Some x = e in cc)
drop_get (y ∷ ys) zero x e = let same : y ≡ x = cc in ap (λ z. z ∷ ys) same
drop_get (y ∷ ys) (suc i) x e =
    let more : suc (i + 1) ≡ suc i + 1 = omega arith in
    drop_get ys i x e ∙ ap (λ n. x ∷ drop n (y ∷ ys)) more

pub get_none : {A : Type 0} (xs : List A) (i : ℕ) → slice_get xs i ≡ None → i < length xs → ⊥
get_none [] i e h = omega (arith, h)
get_none (y ∷ ys) zero e h = let both : Some y ≡ None = e in cc
get_none (y ∷ ys) (suc i) e h = get_none ys i e (omega (arith, h))
