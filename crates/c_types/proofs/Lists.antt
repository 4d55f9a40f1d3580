-- Lists of types that are compared one by one, as a loop goes over them.
use Rattle.std.proofs.Common.{◌≡◌, ◌≤◌, ◌<◌, ◌+◌, ◌&&◌, ℕ, zero, suc, Bool, true, false, List, [], ◌∷◌, length, drop, drop-cons, add-one, get_or, arith, refl, sym, ◌∙◌, ap}
use Rattle.model_types.specs.Types as t
use Rattle.model_types.specs.Compatible as m

-- lists of two lengths aren't compatible
pub unlike : (xs ys : List t.CType) → (length xs ≡ length ys → ⊥) → false ≡ m.compatible_lists (t.types xs) (t.types ys)
unlike [] [] h = absurd (h refl)
unlike [] (y ∷ ys) h = refl
unlike (x ∷ xs) [] h = refl
unlike (x ∷ xs) (y ∷ ys) h = other (m.compatible_passed x y) (m.compatible_lists (t.types xs) (t.types ys)) (unlike xs ys (λ e. h (ap suc e)))
  where
    other : (b c : Bool) → false ≡ c → false ≡ (b && c)
    other true c h = h
    other false c h = refl

-- the types from a rank on are compatible exactly where all are
pub record IsPassed (xs ys : List t.CType) (i at : ℕ) : Type 0 where
  pub same : at ≡ i
  pub rest : m.compatible_lists (t.types (drop i xs)) (t.types (drop i ys)) ≡ m.compatible_lists (t.types xs) (t.types ys)

first : (xs : List t.CType) (i : ℕ) (x : t.CType) → i < length xs → x ≡ get_or xs i x → drop i xs ≡ x ∷ drop (i + 1) xs
first xs i x h is = rw (add-one) (drop-cons xs i x h ∙ ap (λ (y : t.CType). y ∷ drop (suc i) xs) (sym is))

both : (xs ys : List t.CType) (i : ℕ) (x y : t.CType) → i < length xs → i < length ys → x ≡ get_or xs i x → y ≡ get_or ys i y
    → m.compatible_lists (t.types (drop i xs)) (t.types (drop i ys)) ≡ (m.compatible_passed x y && m.compatible_lists (t.types (drop (i + 1) xs)) (t.types (drop (i + 1) ys)))
both xs ys i x y h k is its =
    ap (λ (zs : List t.CType). m.compatible_lists (t.types zs) (t.types (drop i ys))) (first xs i x h is)
    ∙ ap (λ (zs : List t.CType). m.compatible_lists (t.types (x ∷ drop (i + 1) xs)) (t.types zs)) (first ys i y k its)

pub passed_step : (xs ys : List t.CType) (i at : ℕ) (x y : t.CType) → i < length xs → at < length ys → x ≡ get_or xs i x → y ≡ get_or ys at y
    → true ≡ m.compatible_passed x y → IsPassed xs ys i at → IsPassed xs ys (i + 1) (at + 1)
passed_step xs ys i at x y h k is its passes p = record {
  same = ap (λ (n : ℕ). n + 1) p.same;
  rest = sym (after (m.compatible_passed x y) (m.compatible_lists (t.types (drop (i + 1) xs)) (t.types (drop (i + 1) ys))) passes (sym p.rest ∙ both xs ys i x y h (omega (arith, k, p.same)) is (omega_get p.same)));
}
  where
    omega_get : at ≡ i → y ≡ get_or ys i y
    omega_get e = its ∙ ap (λ (n : ℕ). get_or ys n y) e

    after : {whole : Bool} (b c : Bool) → true ≡ b → whole ≡ (b && c) → whole ≡ c
    after true c e h = h
    after false c e h = absurd (cc)

pub fails_here : (xs ys : List t.CType) (i at : ℕ) (x y : t.CType) → i < length xs → at < length ys → x ≡ get_or xs i x → y ≡ get_or ys at y
    → false ≡ m.compatible_passed x y → IsPassed xs ys i at → false ≡ m.compatible_lists (t.types xs) (t.types ys)
fails_here xs ys i at x y h k is its fails p =
    shut (m.compatible_passed x y) (m.compatible_lists (t.types (drop (i + 1) xs)) (t.types (drop (i + 1) ys))) fails
    ∙ sym (sym p.rest ∙ both xs ys i x y h (omega (arith, k, p.same)) is (its ∙ ap (λ (n : ℕ). get_or ys n y) p.same))
  where
    shut : (b c : Bool) → false ≡ b → false ≡ (b && c)
    shut true c e = absurd (cc)
    shut false c e = refl

pub at_end : (xs ys : List t.CType) (i at : ℕ) → length xs ≤ i → length ys ≤ i → IsPassed xs ys i at → true ≡ m.compatible_lists (t.types xs) (t.types ys)
at_end xs ys i at h k p = none (drop i xs) (drop i ys) (empty xs i h) (empty ys i k) ∙ p.rest
  where
    none : (zs ws : List t.CType) → zs ≡ [] → ws ≡ [] → true ≡ m.compatible_lists (t.types zs) (t.types ws)
    none zs ws e f = rw (e, f) (refl)

    nothing : (n : ℕ) → drop {A = t.CType} n [] ≡ []
    nothing zero = refl
    nothing (suc n) = refl

    empty : (zs : List t.CType) (n : ℕ) → length zs ≤ n → drop n zs ≡ []
    empty [] n h = nothing n
    empty (z ∷ zs) zero h = absurd (omega (arith, h))
    empty (z ∷ zs) (suc n) h = empty zs n (omega (arith, h))

-- each type of a list is smaller than the list
pub one_is_smaller : (xs : List t.CType) (i : ℕ) (x : t.CType) → i < length xs → x ≡ get_or xs i x → t.type_nodes x < t.types_nodes (t.types xs)
one_is_smaller [] i x h is = absurd (omega (arith, h))
one_is_smaller (y ∷ ys) zero x h is = rw (is) (omega arith)
one_is_smaller (y ∷ ys) (suc i) x h is =
    let less : t.type_nodes x < t.types_nodes (t.types ys) = one_is_smaller ys i x (omega (arith, h)) is in
    omega (arith, less)
