-- Bits in words of 64: what one bit is before and after a write.
use Rattle.std.proofs.Common.{◌≡◌, ◌≢◌, ℕ, zero, suc, ◌+◌, ◌*◌, ◌^◌, ◌<◌, ◌≤◌, ◌/◌, ◌%◌, Bool, true, false, List, [], ◌∷◌, length, Some, refl, sym, ap, ◌∙◌, subst, ◌⊎◌, inl, inr, ⊎_elim, arith, get_or, get_or-set_other, get_or-set_same}
use Rattle.std.specs.Prelude.{◌==◌, map, slice_get, slice_set, slice_index, replicate, bit_and, bit_or}
use Rattle.std.specs.Int.{bit_at, w64}
use Rattle.std.specs.List.{range_with_len}
use Rattle.std.proofs.lemmas.Bool.Decides.{eqb_tells}
use Rattle.std.proofs.lemmas.List.FromFn.{length-map-range_with_len}
use Rattle.std.proofs.lemmas.Nat.{div_below, div-add-mod', mod_below}
use Rattle.std.proofs.lemmas.Nat.Bits.{bit_at-zero, shr_and_one, bit_at_set_same, bit_at_set_other}
use Rattle.own_flow.specs.Words.{is_set, bits_of}

-- a list made of a function of the index
made_get : (f : ℕ → Bool) (a n i : ℕ) → i < n → slice_get (map f (range_with_len a n)) i ≡ Some (f (a + i))
made_get f a zero i h = absurd (omega (arith, h))
made_get f a (suc n) zero h = let e : a + 0 ≡ a = omega arith in ap (λ k. Some (f k)) (sym e)
made_get f a (suc n) (suc i) h = let e : a + 1 + i ≡ a + suc i = omega arith in made_get f (a + 1) n i (omega (arith, h)) ∙ ap (λ k. Some (f k)) e

made_same : (f g : ℕ → Bool) (a n : ℕ) → ((j : ℕ) → a ≤ j → j < a + n → g j ≡ f j) → map g (range_with_len a n) ≡ map f (range_with_len a n)
made_same f g a zero h = refl
made_same f g a (suc n) h =
    ap (λ b. b ∷ map g (range_with_len (a + 1) n)) (h a (omega arith) (omega arith))
    ∙ ap (λ bs. f a ∷ bs) (made_same f g (a + 1) n (λ j l m. h j (omega (arith, l)) (omega (arith, m))))

made_set : (f g : ℕ → Bool) (a n i : ℕ) → i < n → g (a + i) ≡ true → ((j : ℕ) → j ≢ a + i → g j ≡ f j) → map g (range_with_len a n) ≡ slice_set (map f (range_with_len a n)) i true
made_set f g a zero i h t o = absurd (omega (arith, h))
made_set f g a (suc n) zero h t o =
    let e : a + 0 ≡ a = omega arith in
    ap (λ b. b ∷ map g (range_with_len (a + 1) n)) (subst (λ k. g k ≡ true) e t)
    ∙ ap (λ bs. true ∷ bs) (made_same f g (a + 1) n (λ j l m. o j (λ q. omega (arith, l, q))))
made_set f g a (suc n) (suc i) h t o =
    let e : a + suc i ≡ a + 1 + i = omega arith in
    ap (λ b. b ∷ map g (range_with_len (a + 1) n)) (o a (λ q. omega (arith, q)))
    ∙ ap (λ bs. f a ∷ bs) (made_set f g (a + 1) n i (omega (arith, h)) (subst (λ k. g k ≡ true) e t) (λ j q. o j (λ r. q (r ∙ e))))

pub bits_len : (words : List ℕ) (count : ℕ) → length (bits_of words count) ≡ count
bits_len words count = length-map-range_with_len (is_set words) 0 count

pub word_there : (words : List ℕ) (count at : ℕ) (bits : List Bool) → bits_of words count ≡ bits → count ≤ 64 * length words → at < length bits → at / 64 < length words
word_there words count at bits e c h =
    let l : length bits ≡ count = ap length (sym e) ∙ bits_len words count in
    div_below at 64 (length words) (omega arith) (omega (arith, l, c, h))

-- within a list the default doesn't matter
default_free : (xs : List ℕ) (i d : ℕ) → i < length xs → get_or xs i d ≡ get_or xs i 0
default_free [] i d h = absurd (omega (arith, h))
default_free (x ∷ xs) zero d h = refl
default_free (x ∷ xs) (suc i) d h = default_free xs i d (omega (arith, h))

pub bit_get : (words : List ℕ) (count at w : ℕ) (bits : List Bool) → bits_of words count ≡ bits → at < length bits → at / 64 < length words → w ≡ get_or words (at / 64) w → slice_get bits at ≡ Some (bit_and (w / 2 ^ (at % 64)) 1 == 1)
bit_get words count at w bits e h b q =
    let l : length bits ≡ count = ap length (sym e) ∙ bits_len words count in
    let d : get_or words (at / 64) w ≡ slice_index words (at / 64) = default_free words (at / 64) w b in
    ap (λ bs. slice_get bs at) (sym e)
    ∙ made_get (is_set words) 0 count at (omega (arith, l, h))
    ∙ ap (λ k. Some (is_set words k)) (omega arith)
    ∙ ap (λ v. Some (bit_at v (at % 64) == 1)) (sym (q ∙ d))
    ∙ ap (λ v. Some (v == 1)) (sym (shr_and_one w (at % 64)))

-- two numbers apart have other words or other bits
apart : (i j : ℕ) → j ≢ i → (j / 64 ≢ i / 64) ⊎ (j % 64 ≢ i % 64)
apart i j h = ⊎_elim
    (λ e. inr (λ m. h (sym (div-add-mod' j 64) ∙ ap (λ q. q * 64 + j % 64) e.1 ∙ ap (λ r. i / 64 * 64 + r) m ∙ div-add-mod' i 64)))
    (λ e. inl e.1)
    (eqb_tells (j / 64) (i / 64))

pub bit_set : (words : List ℕ) (count at w : ℕ) (bits : List Bool) → bits_of words count ≡ bits → at < length bits → at / 64 < length words → w ≡ get_or words (at / 64) w → bits_of (slice_set words (at / 64) (bit_or w (1 * 2 ^ (at % 64) % 2 ^ 64))) count ≡ slice_set bits at true
bit_set words count at w bits e h b q =
    let l : length bits ≡ count = ap length (sym e) ∙ bits_len words count in
    let low : at % 64 < 64 = mod_below at 64 (omega arith) in
    let v : ℕ = bit_or w (1 * 2 ^ (at % 64) % 2 ^ 64) in
    let zero_at : 0 + at ≡ at = omega arith in
    let one : is_set (slice_set words (at / 64) v) at ≡ true =
    ap (λ x. bit_at x (at % 64) == 1) (get_or-set_same words (at / 64) v 0 b) ∙ ap (λ x. x == 1) (bit_at_set_same w64 w (at % 64) low) in
    let other : (j : ℕ) → j ≢ at → is_set (slice_set words (at / 64) v) j ≡ is_set words j = λ j n. ⊎_elim
    (λ k. ap (λ x. bit_at x (j % 64) == 1) (get_or-set_other words (at / 64) (j / 64) v 0 k))
    (λ k. ⊎_elim
    (λ s. ap (λ i. bit_at (get_or (slice_set words (at / 64) v) i 0) (j % 64) == 1) s.1
    ∙ ap (λ x. bit_at x (j % 64) == 1) (get_or-set_same words (at / 64) v 0 b)
    ∙ ap (λ x. x == 1) (bit_at_set_other w64 w (at % 64) low (j % 64) k)
    ∙ ap (λ x. bit_at x (j % 64) == 1) (q ∙ default_free words (at / 64) w b)
    ∙ ap (λ i. bit_at (get_or words i 0) (j % 64) == 1) (sym s.1))
    (λ s. ap (λ x. bit_at x (j % 64) == 1) (get_or-set_other words (at / 64) (j / 64) v 0 s.1))
    (eqb_tells (j / 64) (at / 64)))
    (apart at j n) in
    made_set (is_set words) (is_set (slice_set words (at / 64) v)) 0 count at (omega (arith, l, h)) (subst (λ i. is_set (slice_set words (at / 64) v) i ≡ true) (sym zero_at) one) (λ j n. other j (λ r. n (r ∙ sym zero_at)))
    ∙ ap (λ bs. slice_set bs at true) e

-- no bit of words of zeros is set
zero_index : (n i : ℕ) → slice_index (replicate n 0) i ≡ 0
zero_index zero i = refl
zero_index (suc n) zero = refl
zero_index (suc n) (suc i) = zero_index n i

none_made : (f : ℕ → Bool) (a n : ℕ) → ((j : ℕ) → f j ≡ false) → map f (range_with_len a n) ≡ replicate n false
none_made f a zero h = refl
none_made f a (suc n) h = ap (λ b. b ∷ map f (range_with_len (a + 1) n)) (h a) ∙ ap (λ bs. false ∷ bs) (none_made f (a + 1) n h)

pub bits_none : (words : List ℕ) (n count : ℕ) → words ≡ replicate n 0 → bits_of words count ≡ replicate count false
bits_none words n count e = none_made (is_set words) 0 count
    (λ j. ap (λ ws. bit_at (slice_index ws (j / 64)) (j % 64) == 1) e ∙ ap (λ x. bit_at x (j % 64) == 1) (zero_index n (j / 64)) ∙ ap (λ x. x == 1) (bit_at-zero (j % 64)))
