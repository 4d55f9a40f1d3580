-- Items by their ranks.
use Rattle.std.proofs.Common.{◌≡◌, ℕ, zero, suc, ◌+◌, ◌≤◌, false, List, [], ◌∷◌, length, drop, slice_get, Option, Some, None, refl, ap, sym, ◌∙◌, arith}
use Rattle.std.specs.Option.{option_map, is_some}

pub at_rank : {A : Type 0} (xs : List A) (n : ℕ) (x : A) → slice_get xs n ≡ Some x → drop n xs ≡ x ∷ drop (suc n) xs
at_rank [] zero x = λ h. cc
at_rank [] (suc n) x = λ h. cc
at_rank (y ∷ xs) zero x = λ h. let e : y ≡ x = cc in ap (λ z. z ∷ xs) e
at_rank (y ∷ xs) (suc n) x = λ h. at_rank xs n x h

pub at_rank-plus : {A : Type 0} (xs : List A) (n : ℕ) (x : A) → slice_get xs n ≡ Some x → drop n xs ≡ x ∷ drop (n + 1) xs
at_rank-plus xs n x h = let e : suc n ≡ n + 1 = omega arith in at_rank xs n x h ∙ ap (λ (m : ℕ). x ∷ drop m xs) e

pub past_end : {A : Type 0} (xs : List A) (n : ℕ) → slice_get xs n ≡ None → drop n xs ≡ []
past_end [] zero = λ h. refl
past_end [] (suc n) = λ h. refl
past_end (y ∷ xs) zero = λ h. cc
past_end (y ∷ xs) (suc n) = λ h. past_end xs n h

pub none_short : {A : Type 0} (xs : List A) (n : ℕ) → slice_get xs n ≡ None → length xs ≤ n
none_short [] n = λ h. omega arith
none_short (y ∷ xs) zero = λ h. cc
none_short (y ∷ xs) (suc n) = λ h. let r : length xs ≤ n = none_short xs n h in omega arith

pub copied-none : {A B : Type 0} (o : Option A) (p : Option B) (f : A → B) → option_map f o ≡ p → o ≡ None → p ≡ None
copied-none o p f e h = sym e ∙ ap (option_map f) h

pub not_some : {A B : Type 0} (o : Option A) (p : Option B) (f : A → B) → option_map f o ≡ p → is_some o ≡ false → p ≡ None
not_some None p f e h = sym e
not_some (Some x) p f e h = cc
