-- Marks over numbers, what waits to be followed, and what is left to do.
use Rattle.std.specs.Prelude.{◌≡◌, ℕ, suc, ◌+◌, Bool, true, false, cond, List, [], ◌∷◌, ◌++◌, length, slice_get, slice_set, Some, ◌⊎◌}

-- the weight of what isn't marked
abbrev pub unseen : (ℕ → ℕ) → List Bool → ℕ
unseen w [] = 0
unseen w (b ∷ bs) = cond b 0 (w 0) + unseen (λ i. w (suc i)) bs

-- the weight of what waits
abbrev pub due : (ℕ → ℕ) → List ℕ → ℕ
due w [] = 0
due w (j ∷ js) = w j + due w js

abbrev pub Marked : List Bool → ℕ → Type 0
Marked seen j = slice_get seen j ≡ Some true

-- j is marked, and waits if it wasn't marked before
abbrev pub Marks : ℕ → List Bool → List ℕ → List Bool → List ℕ → Type 0
Marks j seen waiting seen' waiting' = ((slice_get seen j ≡ Some true) × (seen' ≡ seen) × (waiting' ≡ waiting)) ⊎ ((slice_get seen j ≡ Some false) × (seen' ≡ slice_set seen j true) × (waiting' ≡ waiting ++ j ∷ []))

abbrev pub Among : List ℕ → ℕ → Type 0
Among [] x = ⊥
Among (y ∷ ys) x = (x ≡ y) ⊎ Among ys x

-- what was marked before, and these, are marked now, and what is new of them waits
pub record Grown (A : ℕ → Type 0) (seen : List Bool) (waiting : List ℕ) (seen' : List Bool) (waiting' : List ℕ) : Type 0 where
  pub len : length seen' ≡ length seen
  pub keeps : (x : ℕ) → Marked seen x → Marked seen' x
  pub from : (x : ℕ) → Marked seen' x → Marked seen x ⊎ A x
  pub all : (x : ℕ) → A x → Marked seen' x
  pub waits : (x : ℕ) → Marked seen' x → Marked seen x ⊎ Among waiting' x
  pub stays : (x : ℕ) → Among waiting x → Among waiting' x
  pub marked : (x : ℕ) → Among waiting' x → Among waiting x ⊎ Marked seen' x
  pub budget : (w : ℕ → ℕ) → unseen w seen' + due w waiting' ≡ unseen w seen + due w waiting
