-- A graph has one list of findings: the order leaves no choice.
use Rattle.std.proofs.Common.{◌≡◌, ℕ, zero, suc, ◌<◌, List, [], ◌∷◌, length, refl, sym, ap, ◌∙◌, subst, ◌⊎◌, inl, inr, ⊎_elim, arith, Contains}
use Rattle.std.specs.Prelude.{AllPairs, slice_index_or}
use Rattle.cake_base.specs.declared.rules.Fault.{Fault}
use Rattle.own_flow.specs.declared.flow.Edge.{Edge}
use Rattle.own_flow.specs.Findings.{IsBelow, Precedes, order_key, AreFindings}

below_itself : (ks : List ℕ) → IsBelow ks ks → ⊥
below_itself [] h = h
below_itself (k ∷ ks) h = ⊎_elim (λ l. omega (arith, l)) (λ e. below_itself ks e.1) h

below_then : (js ks ls : List ℕ) → IsBelow js ks → IsBelow ks ls → IsBelow js ls
below_then [] ks ls g h = absurd (g)
below_then (j ∷ js) [] ls g h = absurd (g)
below_then (j ∷ js) (k ∷ ks) [] g h = absurd (h)
below_then (j ∷ js) (k ∷ ks) (l ∷ ls) g h = ⊎_elim
    (λ a. ⊎_elim (λ b. inl (omega (arith, a, b))) (λ b. inl (omega (arith, a, b.0))) h)
    (λ a. ⊎_elim (λ b. inl (omega (arith, a.0, b))) (λ b. inr (a.0 ∙ b.0, below_then js ks ls a.1 b.1)) h)
    g

abbrev IsMember : List Fault → Fault → Type 0
IsMember [] x = ⊥
IsMember (y ∷ ys) x = (x ≡ y) ⊎ IsMember ys x

member_at : (xs : List Fault) (k : ℕ) (x : Fault) → k < length xs → slice_index_or xs k x ≡ x → IsMember xs x
member_at [] k x l e = absurd (omega (arith, l))
member_at (y ∷ ys) zero x l e = inl (sym e)
member_at (y ∷ ys) (suc k) x l e = inr (member_at ys k x (omega (arith, l)) e)

place_of : (xs : List Fault) (x : Fault) → IsMember xs x → Contains xs x
place_of [] x h = absurd (h)
place_of (y ∷ ys) x h = ⊎_elim
    (λ e. (0, (let l : 0 < length (y ∷ ys) = omega arith in l), sym e))
    (λ m. let c = place_of ys x m in (suc c.0, (let l : suc c.0 < length (y ∷ ys) = omega (arith, c.1) in l), c.2))
    h

head_first : (x : Fault) (xs : List Fault) (z : Fault) → AllPairs Precedes (x ∷ xs) → IsMember xs z → Precedes x z
head_first x xs z o m =
    let c = place_of xs z m in
    subst (λ f. Precedes x f) c.2 (o 0 (suc c.0) z (omega arith) (let l : suc c.0 < length (x ∷ xs) = omega (arith, c.1) in l))

tail_ordered : (x : Fault) (xs : List Fault) → AllPairs Precedes (x ∷ xs) → AllPairs Precedes xs
tail_ordered x xs o i j d l m = o (suc i) (suc j) d (omega (arith, l)) (let k : suc j < length (x ∷ xs) = omega (arith, m) in k)

never_before_itself : (x y : Fault) → x ≡ y → Precedes x y → ⊥
never_before_itself x y e h = below_itself (order_key y) (subst (λ f. Precedes f y) e h)

same_list : (xs ys : List Fault) → AllPairs Precedes xs → AllPairs Precedes ys → ((z : Fault) → IsMember xs z → IsMember ys z) → ((z : Fault) → IsMember ys z → IsMember xs z) → xs ≡ ys
same_list [] [] o p f g = refl
same_list [] (y ∷ ys) o p f g = absurd (g y (inl refl))
same_list (x ∷ xs) [] o p f g = absurd (f x (inl refl))
same_list (x ∷ xs) (y ∷ ys) o p f g =
    let e : x ≡ y = ⊎_elim (λ e. e)
    (λ m. ⊎_elim (λ e. sym e)
    (λ n. absurd (never_before_itself x x refl (below_then (order_key x) (order_key y) (order_key x) (head_first x xs y o n) (head_first y ys x p m))))
    (g y (inl refl)))
    (f x (inl refl)) in
    ap (λ z. z ∷ xs) e ∙ ap (λ zs. y ∷ zs) (same_list xs ys (tail_ordered x xs o) (tail_ordered y ys p)
    (λ z m. ⊎_elim (λ q. absurd (never_before_itself x z (e ∙ sym q) (head_first x xs z o m))) (λ n. n) (f z (inr m)))
    (λ z m. ⊎_elim (λ q. absurd (never_before_itself y z (sym e ∙ sym q) (head_first y ys z p m))) (λ n. n) (g z (inr m))))

pub one_findings : (edges : List Edge) (first second : List Fault) → AreFindings edges first → AreFindings edges second → first ≡ second
one_findings edges first second h k = same_list first second h.ordered k.ordered
    (λ z m. let c = k.complete z (h.sound z (place_of first z m)) in member_at second c.0 z c.1 c.2)
    (λ z m. let c = h.complete z (k.sound z (place_of second z m)) in member_at first c.0 z c.1 c.2)
