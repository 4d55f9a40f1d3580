-- Files that are read once.
use Rattle.std.proofs.Common.{◌≡◌, ℕ, zero, suc, ◌<◌, ◌≤◌, true, List, [], ◌∷◌, length, slice_index_or, slice_set, refl, ap, arith}
use Rattle.model_preprocessing.specs.Sources.{Source, marked_once}

pub marked-set : (fs : List Source) (i : ℕ) (f : Source) → f ≡ slice_index_or fs i f → i < length fs → slice_set fs i (record f { once = true }) ≡ marked_once i fs
marked-set [] i f e h = absurd (omega arith)
marked-set (g ∷ fs) zero f e h = ap (λ (z : Source). let r : Source = record z { once = true } in r ∷ fs) e
marked-set (g ∷ fs) (suc i) f e h = let k : i < length fs = omega arith in ap (λ z. g ∷ z) (marked-set fs i f e k)

pub marked-past : (fs : List Source) (i : ℕ) → length fs ≤ i → marked_once i fs ≡ fs
marked-past [] i h = refl
marked-past (g ∷ fs) zero h = absurd (omega arith)
marked-past (g ∷ fs) (suc i) h = let k : length fs ≤ i = omega arith in ap (λ z. g ∷ z) (marked-past fs i k)
