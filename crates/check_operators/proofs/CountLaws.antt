-- Complete structures, counted one by one.
use Rattle.std.proofs.Common.{◌≡◌, ◌∙◌, ap, refl, arith, ℕ, zero, suc, ◌+◌, ◌<◌, ◌≤◌, Bool, true, false, List, [], ◌∷◌, length, drop, is_some, if◌then◌else◌}
use Rattle.model_types.specs.declared.types.StructId.{StructId}
use Rattle.model_types.specs.Structures.{Structure, members_of}
use Rattle.model_types.specs.Layout.{complete_count}

one_counted : (structs : List Structure) (at : ℕ) → at < length structs → complete_count (drop at structs) ≡ (if is_some (members_of structs (record { 0 = at })) then 1 + complete_count (drop (suc at) structs) else complete_count (drop (suc at) structs))
one_counted [] at h = absurd (omega (arith, h))
one_counted (s ∷ ss) zero h = refl
one_counted (s ∷ ss) (suc at) h = let l : at < length ss = omega (arith, h) in one_counted ss at l

by_case : (b : Bool) (at count next all others total : ℕ) → count ≤ at → next ≡ (if b then count + 1 else count) → all ≡ (if b then 1 + others else others) → count + all ≡ total → (next ≤ at + 1) × (next + others ≡ total)
by_case true at count next all others total h n a e = (omega (arith, h, n), omega (arith, n, a, e))
by_case false at count next all others total h n a e = (omega (arith, h, n), omega (arith, n, a, e))

-- one more is looked at
pub count_on : (structs : List Structure) (at count next : ℕ) → at < length structs → count ≤ at → next ≡ (if is_some (members_of structs (record { 0 = at })) then count + 1 else count) → count + complete_count (drop at structs) ≡ complete_count structs → (next ≤ at + 1) × (next + complete_count (drop (at + 1) structs) ≡ complete_count structs)
count_on structs at count next l h n e =
    let step : suc at ≡ at + 1 = omega arith in
    let moved : complete_count (drop (suc at) structs) ≡ complete_count (drop (at + 1) structs) = ap (λ k. complete_count (drop k structs)) step in
    let counted : (next ≤ at + 1) × (next + complete_count (drop (suc at) structs) ≡ complete_count structs) =
    by_case (is_some (members_of structs (record { 0 = at }))) at count next (complete_count (drop at structs)) (complete_count (drop (suc at) structs)) (complete_count structs) h n (one_counted structs at l) e in
    (counted.0, omega (arith, moved, counted.1))

none_left : (structs : List Structure) (at : ℕ) → length structs ≤ at → complete_count (drop at structs) ≡ 0
none_left [] zero h = refl
none_left [] (suc at) h = refl
none_left (s ∷ ss) zero h = absurd (omega (arith, h))
none_left (s ∷ ss) (suc at) h = let l : length ss ≤ at = omega (arith, h) in none_left ss at l

-- all are counted
pub all_counted : (structs : List Structure) (at count : ℕ) → length structs ≤ at → count + complete_count (drop at structs) ≡ complete_count structs → count ≡ complete_count structs
all_counted structs at count h e = omega (arith, none_left structs at h, e)
