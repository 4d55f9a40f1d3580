-- Following the chain of edges that begin at a node's point.
use Rattle.std.proofs.Common.{◌≡◌, ℕ, zero, suc, ◌+◌, ◌<◌, ◌≤◌, false, List, length, refl, sym, ap, ◌∙◌, subst, ◌⊎◌, inl, inr, ⊎_elim, arith}
use Rattle.std.specs.Prelude.{◌==◌, cond}
use Rattle.std.proofs.lemmas.Bool.Decides.{eqb_tells}
use Rattle.own_flow.specs.declared.flow.Edge.{Edge}
use Rattle.own_flow.specs.declared.flow.Fact.{Fact}
use Rattle.own_flow.specs.declared.flow.Fact.TheVariants.{Reached, Has}
use Rattle.own_flow.specs.declared.nodes.Node.{Node}
use Rattle.own_flow.specs.Chains.{edge_at, IsNext}
use Rattle.own_flow.specs.Exploration.{Search, Grew, Made, MadeBelow, MadeOf, degree, step_cost}
use Rattle.own_flow.proofs.Grew.{grew_none, grew_then}

-- no edge of the point lies between
degree_flat : (edges : List Edge) (point k n : ℕ) → k ≤ n → ((i : ℕ) → k ≤ i → i < n → (edge_at edges i).from ≡ point → ⊥) → degree edges point n ≡ degree edges point k
degree_flat edges point k zero l h = let e : k ≡ 0 = omega (arith, l) in ap (degree edges point) (sym e)
degree_flat edges point k (suc n) l h = ⊎_elim
    (λ e. ap (degree edges point) (sym e.1))
    (λ e. let m : k ≤ n = omega (arith, l, e.1) in
    let f : (edge_at edges n).from == point ≡ false = ⊎_elim (λ z. absurd (h n m (omega arith) z.1)) (λ z. z.0) (eqb_tells (edge_at edges n).from point) in
    ap (λ b. degree edges point n + cond b 1 0) f ∙ (let i = degree_flat edges point k n m (λ j u w. h j u (omega (arith, w))) in omega (arith, i)))
    (eqb_tells k (suc n))

degree_more : (edges : List Edge) (point n : ℕ) → (edge_at edges n).from ≡ point → degree edges point (suc n) ≡ degree edges point n + 1
degree_more edges point n h = ap (λ b. degree edges point n + cond b 1 0) (⊎_elim (λ z. z.0) (λ z. absurd (z.1 h)) (eqb_tells (edge_at edges n).from point))

degree_grows : (edges : List Edge) (point m n : ℕ) → m ≤ n → degree edges point m ≤ degree edges point n
degree_grows edges point m zero h = let e : m ≡ 0 = omega (arith, h) in let i : degree edges point m ≡ degree edges point 0 = ap (degree edges point) e in omega (arith, i)
degree_grows edges point m (suc n) h = ⊎_elim
    (λ e. let i : degree edges point m ≡ degree edges point (suc n) = ap (degree edges point) e.1 in omega (arith, i))
    (λ e. let i = degree_grows edges point m n (let l : m ≤ n = omega (arith, h, e.1) in l) in omega (arith, i))
    (eqb_tells m (suc n))

cost_more : (f : Fact) (n : ℕ) → step_cost f (n + 1) ≡ step_cost f n + step_cost f 1
cost_more Reached n = refl
cost_more (Has p s) n = refl

cost_none : (f : Fact) → step_cost f 0 ≡ 0
cost_none Reached = refl
cost_none (Has p s) = refl

cost_grows : (f : Fact) (m n : ℕ) → m ≤ n → step_cost f m ≤ step_cost f n
cost_grows Reached m n h = omega arith
cost_grows (Has p s) m n h = h

-- the chain was followed up to the edge `at`
pub record Followed (edges : List Edge) (node : Node) (at : ℕ) (s t : Search) (before now : ℕ) : Type 0 where
  pub grew : Grew (MadeBelow s.places edges node at) s t
  pub high : at ≤ length edges
  pub here : at < length edges → (edge_at edges at).from ≡ node.point
  pub cost : now ≡ before + step_cost node.fact (degree edges node.point at)

pub followed_none : (edges : List Edge) (node : Node) (at : ℕ) (s : Search) (before : ℕ) → IsNext edges node.point 0 at → Followed edges node at s s before before
followed_none edges node at s before h = record {
  grew = grew_none (MadeBelow s.places edges node at) s (λ x m. h.none m.0 (omega arith) m.1 m.2);
  high = h.high;
  here = h.here;
  cost = let d = degree_flat edges node.point 0 at h.low h.none in let e : step_cost node.fact (degree edges node.point at) ≡ 0 = ap (step_cost node.fact) d ∙ cost_none node.fact in omega (arith, e);
}

pub followed_more : (edges : List Edge) (node : Node) (at next : ℕ) (s t u : Search) (before now later : ℕ) → Followed edges node at s t before now → at < length edges → Grew (Made t.places (edge_at edges at) node.fact) t u → IsNext edges (edge_at edges at).from (at + 1) next → later ≡ now + step_cost node.fact 1 → Followed edges node next s u before later
followed_more edges node at next s t u before now later f l g i c =
    let from : (edge_at edges at).from ≡ node.point = f.here l in
    let n : IsNext edges node.point (at + 1) next = subst (λ a. IsNext edges a (at + 1) next) from i in
    let k : Grew (Made s.places (edge_at edges at) node.fact) t u = subst (λ p. Grew (Made p (edge_at edges at) node.fact) t u) f.grew.places g in
    let e : at + 1 ≡ suc at = omega arith in
    let d : degree edges node.point next ≡ degree edges node.point at + 1 = degree_flat edges node.point (at + 1) next n.low n.none ∙ ap (degree edges node.point) e ∙ degree_more edges node.point at from in
    record {
      grew = grew_then (MadeBelow s.places edges node at) (Made s.places (edge_at edges at) node.fact) (MadeBelow s.places edges node next) s t u f.grew k
          (λ x m. (m.0, (let b : m.0 < next = omega (arith, m.1, n.low) in b), m.2, m.3))
          (λ x m. (at, (let b : at < next = omega (arith, n.low) in b), from, m))
          (λ x m. ⊎_elim
          (λ q. inr (subst (λ j. Made s.places (edge_at edges j) node.fact x) q.1 m.3))
          (λ q. ⊎_elim
          (λ b. inl (m.0, b, m.2, m.3))
          (λ b. absurd (n.none m.0 (omega (arith, b, q.1)) m.1 m.2))
          (below_or m.0 at))
          (eqb_tells m.0 at));
      high = n.high;
      here = n.here;
      cost = let a : step_cost node.fact (degree edges node.point next) ≡ step_cost node.fact (degree edges node.point at) + step_cost node.fact 1 = ap (step_cost node.fact) d ∙ cost_more node.fact (degree edges node.point at) in omega (arith, a, c, f.cost);
    }
  where
    below_or : (m n : ℕ) → (m < n) ⊎ (n ≤ m)
    below_or m n = grind arith

pub followed_all : (edges : List Edge) (node : Node) (at : ℕ) (s t : Search) (before now : ℕ) → Followed edges node at s t before now → length edges ≤ at → Grew (MadeOf s.places edges node) s t × (now ≤ before + step_cost node.fact (degree edges node.point (length edges)))
followed_all edges node at s t before now f l =
    let e : at ≡ length edges = omega (arith, l, f.high) in
    (subst (λ n. Grew (MadeBelow s.places edges node n) s t) e f.grew, subst (λ n. now ≤ before + step_cost node.fact (degree edges node.point n)) e (omega (arith, f.cost)))

-- the cost where memory ends after the count of one edge
pub followed_cost : (edges : List Edge) (node : Node) (at : ℕ) (s t : Search) (before now later : ℕ) → Followed edges node at s t before now → at < length edges → later ≡ now + step_cost node.fact 1 → later ≤ before + step_cost node.fact (degree edges node.point (length edges))
followed_cost edges node at s t before now later f l c =
    let d = degree_more edges node.point at (f.here l) in
    let g = degree_grows edges node.point (suc at) (length edges) (let m : suc at ≤ length edges = omega (arith, l) in m) in
    let m : degree edges node.point at + 1 ≤ degree edges node.point (length edges) = omega (arith, d, g) in
    let a = cost_grows node.fact (degree edges node.point at + 1) (degree edges node.point (length edges)) m in
    let b = cost_more node.fact (degree edges node.point at) in
    omega (arith, a, b, c, f.cost)
