-- The loop of the search: what it keeps, and what it has done at its end.
use Rattle.std.proofs.Common.{◌≡◌, ℕ, ◌+◌, ◌*◌, ◌<◌, ◌≤◌, false, List, [], ◌∷◌, ◌++◌, length, refl, sym, ap, ◌∙◌, subst, arith}
use Rattle.std.specs.Prelude.{All, map, replicate}
use Rattle.own_flow.specs.declared.flow.Edge.{Edge}
use Rattle.own_flow.specs.declared.flow.Fact.{Fact}
use Rattle.own_flow.specs.declared.flow.Fact.TheVariants.{Reached}
use Rattle.own_flow.specs.FlowGraph.{Fits}
use Rattle.own_flow.specs.PossibleState.{Gives, Possible, start, along}
use Rattle.own_flow.specs.declared.nodes.Node.{Node}
use Rattle.own_flow.specs.Chains.{edge_at, no_edge}
use Rattle.own_flow.specs.Nodes.{node_number, row_width, NodeFits}
use Rattle.own_flow.specs.Marks.{unseen, due, Marked, Grown}
use Rattle.own_flow.specs.Exploration.{Search, Grew, Just, MadeOf, numbers, IsExplored, degree, step_cost}
use Rattle.own_flow.proofs.Growth.{grown_weak}
use Rattle.own_flow.proofs.Grew.{numbers_end}
use Rattle.own_flow.proofs.ChainLaws.{edge_is}
use Rattle.own_flow.proofs.NodeLaws.{node_same}
use Rattle.own_flow.proofs.EffectLaws.{gives_fits}
use Rattle.own_flow.proofs.Least.{falses, Reach, step, Inv, inv_start, inv_step, inv_done, due_last, step_less}
use Rattle.own_flow.proofs.Least as least
use Rattle.own_flow.proofs.Total.{number_cost, node_cost, total}

-- what follows from a number, by the node that has it
abbrev pub Next : ℕ → ℕ → List Edge → ℕ → ℕ → Type 0
Next places points edges i x = (node : Node) × NodeFits places points node × (i ≡ node_number places node) × MadeOf places edges node x

pub record Exploring (places points : ℕ) (edges : List Edge) (s : Search) (before now : ℕ) : Type 0 where
  pub same_places : s.places ≡ places
  pub same_points : s.points ≡ points
  pub inv : Inv (Next places points edges) (points * row_width places) s.marks (numbers s)
  pub budget : now + unseen (number_cost places edges) s.marks + due (number_cost places edges) (numbers s) ≤ before + 5 * places * length edges

abbrev pub Root : Node
Root = record { point = 0; fact = Reached }

fits_from : (places points : ℕ) (edges : List Edge) → All (Fits places points) edges → (k : ℕ) → k < length edges → (edge_at edges k).from < points
fits_from places points edges h k l = (h k no_edge l).from

pub explore_start : (places points : ℕ) (edges : List Edge) (s t : Search) (now : ℕ) → All (Fits places points) edges → s ≡ record { places = places; points = points; marks = replicate (points * row_width places) false; waiting = [] } → Grew (Just s.places Root) s t → Exploring places points edges t now now
explore_start places points edges s t now h e g =
    let k : Grew (Just places Root) (record { places = places; points = points; marks = falses (points * row_width places); waiting = [] }) t = subst (λ u. Grew (Just u.places Root) u t) e g in
    let z : node_number places Root ≡ 0 = omega arith in
    let r : Grown (λ x. x ≡ 0) (falses (points * row_width places)) [] t.marks (numbers t) = grown_weak (Just places Root) (λ x. x ≡ 0) (falses (points * row_width places)) [] t.marks (numbers t) (λ x q. q ∙ z) (λ x q. q ∙ sym z) k.grown in
    record {
      same_places = k.places;
      same_points = k.points;
      inv = inv_start (Next places points edges) (points * row_width places) t.marks (numbers t) r;
      budget = let b = r.budget (number_cost places edges) in let c = total places points edges (fits_from places points edges h) in omega (arith, b, c);
    }

-- a node is taken, and what follows from it was marked
pub explore_step : (places points : ℕ) (edges : List Edge) (s t u : Search) (node : Node) (before now later : ℕ) → Exploring places points edges s before now → s ≡ record t { waiting = t.waiting ++ node ∷ [] } → NodeFits s.places s.points node → Grew (MadeOf t.places edges node) t u → later ≤ now + step_cost node.fact (degree edges node.point (length edges)) → Exploring places points edges u before later
explore_step places points edges s t u node before now later h e f g c =
    let sp : t.places ≡ places = sym (ap (λ (z : Search). z.places) e) ∙ h.same_places in
    let sq : t.points ≡ points = sym (ap (λ (z : Search). z.points) e) ∙ h.same_points in
    let fit : NodeFits places points node = subst (λ p. NodeFits p points node) h.same_places (subst (λ q. NodeFits s.places q node) h.same_points f) in
    let all : numbers s ≡ numbers t ++ node_number places node ∷ [] = ap numbers e ∙ numbers_end t.places t.waiting node ∙ ap (λ p. numbers t ++ node_number p node ∷ []) sp in
    let marks : s.marks ≡ t.marks = ap (λ (z : Search). z.marks) e in
    let inv : Inv (Next places points edges) (points * row_width places) t.marks (numbers s) = subst (λ m. Inv (Next places points edges) (points * row_width places) m (numbers s)) marks h.inv in
    let r : Grown (Next places points edges (node_number places node)) t.marks (numbers t) u.marks (numbers u) = grown_weak (MadeOf places edges node) (Next places points edges (node_number places node)) t.marks (numbers t) u.marks (numbers u)
    (λ x m. (node, fit, refl, m))
    (λ x m. subst (λ n. MadeOf places edges n x) (sym (node_same places points node m.0 fit m.1 m.2)) m.3)
    (subst (λ p. Grown (MadeOf p edges node) t.marks (numbers t) u.marks (numbers u)) sp g.grown) in
    record {
      same_places = g.places ∙ sp;
      same_points = g.points ∙ sq;
      inv = inv_step (Next places points edges) (points * row_width places) (node_number places node) t.marks (numbers s) (numbers t) u.marks (numbers u) all inv r;
      budget =
          let b = r.budget (number_cost places edges) in
          let d = due_last (number_cost places edges) (numbers s) (numbers t) (node_number places node) all in
          let n = node_cost places points edges node fit in
          let m : unseen (number_cost places edges) s.marks ≡ unseen (number_cost places edges) t.marks = ap (unseen (number_cost places edges)) marks in
          omega (arith, b, c, d, n, m, h.budget);
    }

pub explore_cost : (places points : ℕ) (edges : List Edge) (s t : Search) (node : Node) (before now later : ℕ) → Exploring places points edges s before now → s ≡ record t { waiting = t.waiting ++ node ∷ [] } → NodeFits s.places s.points node → later ≤ now + step_cost node.fact (degree edges node.point (length edges)) → later ≤ before + 5 * places * length edges
explore_cost places points edges s t node before now later h e f c =
    let sp : t.places ≡ places = sym (ap (λ (z : Search). z.places) e) ∙ h.same_places in
    let fit : NodeFits places points node = subst (λ p. NodeFits p points node) h.same_places (subst (λ q. NodeFits s.places q node) h.same_points f) in
    let all : numbers s ≡ numbers t ++ node_number places node ∷ [] = ap numbers e ∙ numbers_end t.places t.waiting node ∙ ap (λ p. numbers t ++ node_number p node ∷ []) sp in
    let d = due_last (number_cost places edges) (numbers s) (numbers t) (node_number places node) all in
    let n = node_cost places points edges node fit in
    omega (arith, c, d, n, h.budget)

abbrev pub work : Search → ℕ
work s = unseen (λ i. 1) s.marks + due (λ i. 1) (numbers s)

pub explore_less : (edges : List Edge) (s t u : Search) (node : Node) → s ≡ record t { waiting = t.waiting ++ node ∷ [] } → Grew (MadeOf t.places edges node) t u → work u < work s
explore_less edges s t u node e g =
    let all : numbers s ≡ numbers t ++ node_number t.places node ∷ [] = ap numbers e ∙ numbers_end t.places t.waiting node in
    let l = step_less (node_number t.places node) (MadeOf t.places edges node) t.marks (numbers s) (numbers t) u.marks (numbers u) all g.grown in
    let m : unseen (λ i. 1) s.marks ≡ unseen (λ i. 1) t.marks = ap (λ (z : Search). unseen (λ i. 1) z.marks) e in
    omega (arith, l, m)

-- what is reached by numbers is possible
reach_possible : (places points : ℕ) (edges : List Edge) → 0 < points → All (Fits places points) edges → {x : ℕ} → Reach (Next places points edges) x → (node : Node) × NodeFits places points node × (x ≡ node_number places node) × Possible edges node.point node.fact
reach_possible places points edges p h least.start = (Root, record { point = p; fact = tt }, omega arith, start)
reach_possible places points edges p h (step {i = i} {x = x} r n) =
    let o = reach_possible places points edges p h r in
    let same : o.0 ≡ n.0 = node_same places points o.0 n.0 o.1 n.1 (sym o.2 ∙ n.2) in
    let k = n.3.0 in
    let edge : Edge = edge_at edges k in
    let there : k < length edges = n.3.1 in
    let fit : Fits places points edge = h k no_edge there in
    let made = n.3.3 in
    let before : Possible edges edge.from n.0.fact = subst (λ a. Possible edges a n.0.fact) (sym n.3.2) (subst (λ m. Possible edges m.point m.fact) same o.3) in (
      record { point = edge.to; fact = made.0 },
      record { point = fit.to; fact = gives_fits places made.1 fit.action n.1.fact },
      made.2,
      along {from = edge.from} {to = edge.to} {a = edge.action} {f = n.0.fact} {g = made.0} (k, there, edge_is edges k edge there) before made.1,
    )

-- what is possible is reached by numbers
possible_reach : (places points : ℕ) (edges : List Edge) → 0 < points → All (Fits places points) edges → {a : ℕ} {f : Fact} → Possible edges a f → NodeFits places points (record { point = a; fact = f }) × Reach (Next places points edges) (node_number places (record { point = a; fact = f }))
possible_reach places points edges p h start = (record { point = p; fact = tt }, subst (λ n. Reach (Next places points edges) n) (let z : 0 ≡ node_number places Root = omega arith in z) least.start)
possible_reach places points edges p h (along {from = from} {to = to} {a = a} {f = f} {g = g} c r v) =
    let o = possible_reach places points edges p h r in
    let edge : Edge = record { from = from; action = a; to = to } in
    let is : edge_at edges c.0 ≡ edge = sym (edge_is edges c.0 edge c.1) ∙ c.2 in
    let fit : Fits places points edge = subst (λ e. Fits places points e) is (h c.0 no_edge c.1) in
    let fits : NodeFits places points (record { point = to; fact = g }) = record { point = fit.to; fact = gives_fits places v fit.action o.0.fact } in (
      fits,
      step o.1 (
        record { point = from; fact = f },
        o.0,
        refl,
        (
          c.0,
          c.1,
          ap (λ (e : Edge). e.from) is,
          (g, subst (λ (e : Edge). Gives e.action f g) (sym is) v, ap (λ (e : Edge). node_number places (record { point = e.to; fact = g })) (sym is)),
        ),
      ),
    )

pub explore_done : (places points : ℕ) (edges : List Edge) (s : Search) (before now : ℕ) → 0 < points → All (Fits places points) edges → Exploring places points edges s before now → s.waiting ≡ [] → IsExplored places points edges s
explore_done places points edges s before now p h x e =
    let none : length (numbers s) ≡ 0 = ap (λ ns. length (map (node_number s.places) ns)) e in
    let done = inv_done (Next places points edges) (points * row_width places) s.marks (numbers s) none x.inv in
    record {
      same_places = x.same_places;
      same_points = x.same_points;
      sound = λ node fit m.
          let mark : Marked s.marks (node_number places node) = subst (λ q. Marked s.marks (node_number q node)) x.same_places m in
          let o = reach_possible places points edges p h ((done (node_number places node)).0 mark) in
          subst (λ n. Possible edges n.point n.fact) (sym (node_same places points node o.0 fit o.1 o.2)) o.3;
      complete = λ node r.
          let o = possible_reach places points edges p h r in
          (o.0, subst (λ q. Marked s.marks (node_number q node)) (sym x.same_places) ((done (node_number places node)).1 o.1));
    }

-- a search in which nothing is marked
abbrev pub fresh : ℕ → ℕ → Search
fresh places points = record { places = places; points = points; marks = replicate (points * row_width places) false; waiting = [] }
