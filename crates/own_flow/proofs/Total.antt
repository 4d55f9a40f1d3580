-- The whole cost: five states for each place, each of them followed once over each edge of its point.
use Rattle.std.proofs.Common.{◌≡◌, ℕ, zero, suc, ◌+◌, ◌*◌, ◌<◌, ◌≤◌, ◌/◌, ◌%◌, Bool, List, length, refl, ap, ◌∙◌, ⊎_elim, arith}
use Rattle.std.specs.Prelude.{cond, ◌==◌}
use Rattle.std.proofs.lemmas.Bool.Decides.{eqb_tells}
use Rattle.std.proofs.lemmas.Nat.{div-mul-add, mod-mul-add}
use Rattle.own_flow.specs.declared.flow.Edge.{Edge}
use Rattle.own_flow.specs.declared.flow.Fact.{Fact}
use Rattle.own_flow.specs.declared.flow.Fact.TheVariants.{Reached, Has}
use Rattle.own_flow.specs.declared.nodes.Node.{Node}
use Rattle.own_flow.specs.Chains.{edge_at}
use Rattle.own_flow.specs.Nodes.{node_number, row_width, NodeFits, fact_number, state_number}
use Rattle.own_flow.specs.Marks.{unseen}
use Rattle.own_flow.specs.Exploration.{degree, step_cost}
use Rattle.own_flow.proofs.NodeLaws.{number_point, number_fact}
use Rattle.own_flow.proofs.Least.{falses}

-- what the node of a number costs
abbrev pub number_cost : ℕ → List Edge → ℕ → ℕ
number_cost places edges i = cond (i % row_width places == 0) 0 (degree edges (i / row_width places) (length edges))

fact_cost : (f : Fact) (n : ℕ) → cond (fact_number f == 0) 0 n ≡ step_cost f n
fact_cost Reached n = refl
fact_cost (Has p s) n = ⊎_elim (λ z. absurd (omega (arith, z.1))) (λ z. ap (λ b. cond b 0 n) z.0) (eqb_tells (1 + 5 * p + state_number s) 0)

pub node_cost : (places points : ℕ) (edges : List Edge) (node : Node) → NodeFits places points node → number_cost places edges (node_number places node) ≡ step_cost node.fact (degree edges node.point (length edges))
node_cost places points edges node h =
    ap (λ t. cond (t == 0) 0 (degree edges (node_number places node / row_width places) (length edges))) (number_fact places points node h)
    ∙ ap (λ a. cond (fact_number node.fact == 0) 0 (degree edges a (length edges))) (number_point places points node h)
    ∙ fact_cost node.fact (degree edges node.point (length edges))

abbrev sum_below : ℕ → (ℕ → ℕ) → ℕ
sum_below zero f = 0
sum_below (suc n) f = sum_below n f + f n

sum_first : (n : ℕ) (f : ℕ → ℕ) → sum_below (suc n) f ≡ f 0 + sum_below n (λ i. f (suc i))
sum_first zero f = omega arith
sum_first (suc n) f = let i = sum_first n f in omega (arith, i)

unseen_is : (w : ℕ → ℕ) (n : ℕ) → unseen w (falses n) ≡ sum_below n w
unseen_is w zero = refl
unseen_is w (suc n) = let i = unseen_is (λ i. w (suc i)) n in let f = sum_first n w in omega (arith, i, f)

sum_same : (f g : ℕ → ℕ) (n : ℕ) → ((i : ℕ) → i < n → f i ≡ g i) → sum_below n f ≡ sum_below n g
sum_same f g zero h = refl
sum_same f g (suc n) h = let a = sum_same f g n (λ i l. h i (omega (arith, l))) in let b = h n (omega arith) in omega (arith, a, b)

sum_split : (w : ℕ → ℕ) (m n : ℕ) → sum_below (m + n) w ≡ sum_below m w + sum_below n (λ i. w (m + i))
sum_split w m zero = let e : m + 0 ≡ m = omega arith in ap (λ k. sum_below k w) e ∙ omega arith
sum_split w m (suc n) =
    let e : m + suc n ≡ suc (m + n) = omega arith in
    let a : sum_below (m + suc n) w ≡ sum_below (suc (m + n)) w = ap (λ k. sum_below k w) e in
    let b = sum_split w m n in
    omega (arith, a, b)

one_row : (x k : ℕ) → sum_below (suc k) (λ t. cond (t == 0) 0 x) ≡ k * x
one_row x zero = omega arith
one_row x (suc k) =
    let a = one_row x k in
    let b : cond (suc k == 0) 0 x ≡ x = ⊎_elim (λ z. absurd (omega (arith, z.1))) (λ z. ap (λ c. cond c 0 x) z.0) (eqb_tells (suc k) 0) in
    omega (arith, a, b)

rows : (k m : ℕ) (g w : ℕ → ℕ) → ((a t : ℕ) → t < k + 1 → w (a * (k + 1) + t) ≡ cond (t == 0) 0 (g a)) → sum_below (m * (k + 1)) w ≡ k * sum_below m g
rows k zero g w h = let e : 0 * (k + 1) ≡ 0 = omega arith in ap (λ n. sum_below n w) e ∙ omega arith
rows k (suc m) g w h =
    let e : suc m * (k + 1) ≡ m * (k + 1) + (k + 1) = omega arith in
    let a : sum_below (suc m * (k + 1)) w ≡ sum_below (m * (k + 1) + (k + 1)) w = ap (λ n. sum_below n w) e in
    let b = sum_split w (m * (k + 1)) (k + 1) in
    let c = sum_same (λ t. w (m * (k + 1) + t)) (λ t. cond (t == 0) 0 (g m)) (k + 1) (λ t l. h m t l) in
    let s : k + 1 ≡ suc k = omega arith in
    let d : sum_below (k + 1) (λ t. cond (t == 0) 0 (g m)) ≡ k * g m = ap (λ n. sum_below n (λ t. cond (t == 0) 0 (g m))) s ∙ one_row (g m) k in
    let f = rows k m g w h in
    let i : k * (sum_below m g + g m) ≡ k * sum_below m g + k * g m = omega arith in
    omega (arith, a, b, c, d, f, i)

sum_add : (f g : ℕ → ℕ) (n : ℕ) → sum_below n (λ i. f i + g i) ≡ sum_below n f + sum_below n g
sum_add f g zero = refl
sum_add f g (suc n) = let a = sum_add f g n in omega (arith, a)

abbrev one_if : Bool → ℕ
one_if b = cond b 1 0

sum_none : (b n : ℕ) → n ≤ b → sum_below n (λ a. cond (b == a) 1 0) ≡ 0
sum_none b zero h = refl
sum_none b (suc n) h =
    let a = sum_none b n (let l : n ≤ b = omega (arith, h) in l) in
    let c : one_if (b == n) ≡ 0 = ⊎_elim (λ z. absurd (omega (arith, z.1, h))) (λ z. ap (λ x. cond x 1 0) z.0) (eqb_tells b n) in
    omega (arith, a, c)

sum_one : (b n : ℕ) → b < n → sum_below n (λ a. cond (b == a) 1 0) ≡ 1
sum_one b zero h = absurd (omega (arith, h))
sum_one b (suc n) h = ⊎_elim
    (λ z. let a = sum_none b n (let l : n ≤ b = omega (arith, z.1) in l) in let c : one_if (b == n) ≡ 1 = ap (λ x. cond x 1 0) z.0 in omega (arith, a, c))
    (λ z. let a = sum_one b n (let l : b < n = omega (arith, h, z.1) in l) in let c : one_if (b == n) ≡ 0 = ap (λ x. cond x 1 0) z.0 in omega (arith, a, c))
    (eqb_tells b n)

sum_zero : (n : ℕ) → sum_below n (λ a. 0) ≡ 0
sum_zero zero = refl
sum_zero (suc n) = let a = sum_zero n in omega (arith, a)

-- each edge begins at one point
degrees : (points n : ℕ) (edges : List Edge) → ((k : ℕ) → k < n → (edge_at edges k).from < points) → sum_below points (λ a. degree edges a n) ≡ n
degrees points zero edges h = sum_zero points
degrees points (suc n) edges h =
    let a = sum_add (λ a. degree edges a n) (λ a. cond ((edge_at edges n).from == a) 1 0) points in
    let b = degrees points n edges (λ k l. h k (omega (arith, l))) in
    let c = sum_one (edge_at edges n).from points (h n (omega arith)) in
    omega (arith, a, b, c)

pub total : (places points : ℕ) (edges : List Edge) → ((k : ℕ) → k < length edges → (edge_at edges k).from < points) → unseen (number_cost places edges) (falses (points * row_width places)) ≡ 5 * places * length edges
total places points edges h =
    let a = unseen_is (number_cost places edges) (points * row_width places) in
    let b = rows (5 * places) points (λ p. degree edges p (length edges)) (number_cost places edges)
    (λ p t l. ap (λ m. cond (m == 0) 0 (degree edges ((p * row_width places + t) / row_width places) (length edges))) (mod-mul-add p (row_width places) t l)
    ∙ ap (λ q. cond (t == 0) 0 (degree edges q (length edges))) (div-mul-add p (row_width places) t l)) in
    let c = degrees points (length edges) edges h in
    a ∙ b ∙ ap (λ n. 5 * places * n) c
