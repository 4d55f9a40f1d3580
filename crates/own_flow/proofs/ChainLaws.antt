-- Chains of edges, built from the last edge to the first.
use Rattle.std.proofs.Common.{◌≡◌, ◌≢◌, ℕ, zero, suc, ◌+◌, ◌<◌, List, [], ◌∷◌, length, refl, sym, ap, ◌∙◌, subst, ⊎_elim, arith, get_or-set_other, get_or-set_same}
use Rattle.std.specs.Prelude.{slice_set, slice_index, slice_index_or, replicate}
use Rattle.std.proofs.lemmas.Bool.Decides.{eqb_tells}
use Rattle.own_flow.specs.declared.flow.Edge.{Edge}
use Rattle.own_flow.specs.Chains.{edge_at, IsNext, ChainsFrom}

set_len : (xs : List ℕ) (i v : ℕ) → length (slice_set xs i v) ≡ length xs
set_len [] i v = refl
set_len (x ∷ xs) zero v = refl
set_len (x ∷ xs) (suc i) v = omega (arith, set_len xs i v)

same_len : (n v : ℕ) → length (replicate n v) ≡ n
same_len zero v = refl
same_len (suc n) v = omega (arith, same_len n v)

same_index : (n v i : ℕ) → i < n → slice_index (replicate n v) i ≡ v
same_index zero v i h = absurd (omega (arith, h))
same_index (suc n) v zero h = refl
same_index (suc n) v (suc i) h = same_index n v i (omega (arith, h))

-- within a list the default doesn't matter
pub edge_is : (edges : List Edge) (i : ℕ) (d : Edge) → i < length edges → slice_index_or edges i d ≡ edge_at edges i
edge_is [] i d h = absurd (omega (arith, h))
edge_is (e ∷ es) zero d h = refl
edge_is (e ∷ es) (suc i) d h = edge_is es i d (omega (arith, h))

pub number_is : (xs : List ℕ) (i d : ℕ) → i < length xs → slice_index_or xs i d ≡ slice_index xs i
number_is [] i d h = absurd (omega (arith, h))
number_is (x ∷ xs) zero d h = refl
number_is (x ∷ xs) (suc i) d h = number_is xs i d (omega (arith, h))

-- no edge yet
pub chains_none : (edges : List Edge) (points n : ℕ) (first next : List ℕ) → n ≡ length edges → first ≡ replicate points n → next ≡ replicate n n → ChainsFrom edges points n first next
chains_none edges points n first next e f g = record {
  points_len = ap length f ∙ same_len points n;
  edges_len = ap length g ∙ same_len n n ∙ e;
  firsts = λ a h. let q : slice_index first a ≡ n = ap (λ xs. slice_index xs a) f ∙ same_index points n a h in
      record { low = omega (arith, q); high = omega (arith, q, e); none = λ i l m _. omega (arith, q, l, m); here = λ l. absurd (omega (arith, q, e, l)) };
  nexts = λ k l m. absurd (omega (arith, l, m, e));
}

-- one edge more, in front
pub chains_more : (edges : List Edge) (points i b v : ℕ) (first next : List ℕ) → ChainsFrom edges points (i + 1) first next → i < length edges → b ≡ (edge_at edges i).from → b < points → v ≡ slice_index first b → ChainsFrom edges points i (slice_set first b i) (slice_set next i v)
chains_more edges points i b v first next h l e p q = record {
  points_len = set_len first b i ∙ h.points_len;
  edges_len = set_len next i v ∙ h.edges_len;
  firsts = λ a m. ⊎_elim
      (λ s. subst (λ n. IsNext edges a i n) (sym (ap (λ k. slice_index (slice_set first b i) k) s.1 ∙ get_or-set_same first b i 0 (omega (arith, p, h.points_len))))
      (record { low = omega arith; high = omega (arith, l); none = λ j u w _. omega (arith, u, w); here = λ _. sym e ∙ sym s.1 }))
      (λ s. subst (λ n. IsNext edges a i n) (sym (get_or-set_other first b a i 0 s.1)) (further a s.1 (h.firsts a m)))
      (eqb_tells a b);
  nexts = λ k u m. ⊎_elim
      (λ s. let r : slice_index (slice_set next i v) k ≡ v = ap (λ j. slice_index (slice_set next i v) j) s.1 ∙ get_or-set_same next i v 0 (omega (arith, l, h.edges_len)) in
      let f : (edge_at edges k).from ≡ b = ap (λ j. (edge_at edges j).from) s.1 ∙ sym e in
      subst (λ n. IsNext edges (edge_at edges k).from (k + 1) n) (sym (r ∙ q))
      (subst (λ x. IsNext edges x (k + 1) (slice_index first b)) (sym f)
      (subst (λ j. IsNext edges b (j + 1) (slice_index first b)) (sym s.1) (h.firsts b p))))
      (λ s. subst (λ n. IsNext edges (edge_at edges k).from (k + 1) n) (sym (get_or-set_other next i k v 0 s.1)) (h.nexts k (omega (arith, u, s.1)) m))
      (eqb_tells k i);
}
  where
    further : (a : ℕ) {n : ℕ} → a ≢ b → IsNext edges a (i + 1) n → IsNext edges a i n
    further a {n} d g = record {
      low = omega (arith, g.low);
      high = g.high;
      none = λ j u w f. ⊎_elim (λ s. d (sym f ∙ ap (λ k. (edge_at edges k).from) s.1 ∙ sym e)) (λ s. g.none j (omega (arith, u, s.1)) w f) (eqb_tells j i);
      here = g.here;
    }
