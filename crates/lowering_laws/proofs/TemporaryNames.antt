-- Temporaries have different names: their numbers grow.
use Rattle.std.proofs.Common.{◌≡◌, ◌∙◌, ap, sym, refl, arith, ℕ, zero, suc, ◌<◌, ◌≤◌, ◌^◌, List, length, ◌⊎◌, inl, inr}
use Rattle.std.specs.Prelude.{codes}
use Rattle.std.specs.Fmt.{decimal}
use Rattle.std.proofs.lemmas.Bool.{cases_order}
use Rattle.std.proofs.lemmas.Fmt.{decimal_injective}
use Rattle.std.proofs.lemmas.List.{append_cancel_left}
use Rattle.model_core.specs.Core.{Core}
use Rattle.model_lowering.specs.TextNames.{made, made_number, external_names, naming_of}
use Rattle.lowering_laws.proofs.DifferentNames.{found_behind}

-- a number is past that of the name before
one_more : (externals : List (List ℕ)) (front : List ℕ) (j : ℕ) → made_number externals front j < made_number externals front (suc j)
one_more externals front j =
    let further = found_behind (length externals) externals (made front) (suc (made_number externals front j)) in omega (arith, further)

grows_by : (externals : List (List ℕ)) (front : List ℕ) (i j : ℕ) → (i ≡ j) ⊎ ((i < j) ⊎ (j < i)) → i < suc j →
    (i < j → made_number externals front i < made_number externals front j) → made_number externals front i < made_number externals front (suc j)
grows_by externals front i j (inl e) h before =
    let one = one_more externals front j in
    let same : made_number externals front i ≡ made_number externals front j = ap (made_number externals front) e in
    omega (arith, one, same)
grows_by externals front i j (inr (inl less)) h before =
    let one = one_more externals front j in let former = before less in omega (arith, one, former)
grows_by externals front i j (inr (inr more)) h before = absurd (omega (arith, h, more))

grows : (externals : List (List ℕ)) (front : List ℕ) (i j : ℕ) → i < j → made_number externals front i < made_number externals front j
grows externals front i zero h = absurd (omega (arith, h))
grows externals front i (suc j) h = grows_by externals front i j (cases_order i j) h (grows externals front i j)

told_by : (externals : List (List ℕ)) (front : List ℕ) (i j : ℕ) → (i ≡ j) ⊎ ((i < j) ⊎ (j < i)) → made_number externals front i ≡ made_number externals front j → i ≡ j
told_by externals front i j (inl e) same = e
told_by externals front i j (inr (inl h)) same = let g = grows externals front i j h in absurd (omega (arith, g, same))
told_by externals front i j (inr (inr h)) same = let g = grows externals front j i h in absurd (omega (arith, g, same))

pub temporaries_differ : (core : Core) (count number other : ℕ) → made_number (external_names core) (codes "cake_t") count ≤ 2 ^ 64 → number < count → other < count →
    (naming_of core).temporary number ≡ (naming_of core).temporary other → number ≡ other
temporaries_differ core count number other small h k same =
    let m = made_number (external_names core) (codes "cake_t") number in
    let n = made_number (external_names core) (codes "cake_t") other in
    let a = grows (external_names core) (codes "cake_t") number count h in
    let b = grows (external_names core) (codes "cake_t") other count k in
    told_by (external_names core) (codes "cake_t") number other (cases_order number other)
    (decimal_injective m n (omega (arith, a, small)) (omega (arith, b, small)) (append_cancel_left (codes "cake_t") (decimal m) (decimal n) same))
