-- What the edges break is what the graph's findings are.
use Rattle.std.proofs.Common.{◌≡◌, ℕ, ◌+◌, ◌<◌, List, length, refl, sym, ap, ◌∙◌, subst, ◌⊎◌, inl, inr, ⊎_elim, arith, Contains, ◌↔◌, map, Option, Some}
use Rattle.std.specs.Prelude.{All, IfSome}
use Rattle.std.specs.List.Sorted.{IsStrictlySortedBy}
use Rattle.std.proofs.lemmas.Bool.Decides.{eqb_tells}
use Rattle.cake_base.specs.declared.rules.Fault.{Fault}
use Rattle.own_flow.specs.declared.flow.Action.TheVariants.{Need}
use Rattle.own_flow.specs.declared.flow.Edge.{Edge}
use Rattle.own_flow.specs.declared.flow.Fact.TheVariants.{Has}
use Rattle.own_flow.specs.FlowGraph.{Fits, InPlaces}
use Rattle.own_flow.specs.Findings.{IsFinding, AreFindings}
use Rattle.own_flow.specs.declared.ranks.Ranked.{Ranked}
use Rattle.own_flow.specs.contracts.ranks.RankedOrd.TheImpl.{ghosts}
use Rattle.own_flow.specs.Ranks.{ranked, fault_of}
use Rattle.own_flow.specs.Chains.{no_edge, edge_at}
use Rattle.own_flow.specs.Exploration.{Search, Breaks, BreaksBelow, IsExplored}
use Rattle.own_flow.proofs.ChainLaws.{edge_is}
use Rattle.own_flow.proofs.RankLaws.{fault_back, unranked, in_order}

breaks_finding : (places points : ℕ) (edges : List Edge) (s : Search) (fault : Fault) → IsExplored places points edges s → All (Fits places points) edges → BreaksBelow s edges (length edges) fault → IsFinding edges fault
breaks_finding places points edges s fault x h b =
    let k = b.0 in
    let edge : Edge = edge_at edges k in
    let fit : Fits places points edge = h k no_edge b.1 in
    let broken = b.2 in
    let same : edge ≡ record { from = edge.from; action = Need broken.p broken.states fault.place fault.rule; to = edge.to } = ap (λ a. record { from = edge.from; action = a; to = edge.to }) broken.action in
    let inside : InPlaces places (Need broken.p broken.states fault.place fault.rule) = subst (λ a. InPlaces places a) broken.action fit.action in
    record {
      p = broken.p;
      states = broken.states;
      from = edge.from;
      to = edge.to;
      edge = subst (λ e. Contains edges e) same (k, b.1, edge_is edges k edge b.1);
      state = broken.state;
      forbidden = broken.has.0;
      possible = x.sound (record { point = edge.from; fact = Has broken.p broken.state }) (record { point = fit.from; fact = inside }) broken.has.1;
    }

finding_breaks : (places points : ℕ) (edges : List Edge) (s : Search) (fault : Fault) → IsExplored places points edges s → IsFinding edges fault → BreaksBelow s edges (length edges) fault
finding_breaks places points edges s fault x f =
    let edge : Edge = record { from = f.from; action = Need f.p f.states fault.place fault.rule; to = f.to } in
    let is : edge ≡ edge_at edges f.edge.0 = sym f.edge.2 ∙ edge_is edges f.edge.0 edge f.edge.1 in
    let there : Breaks s edge fault = record {
      p = f.p;
      states = f.states;
      action = refl;
      state = f.state;
      has = (f.forbidden, (x.complete (record { point = f.from; fact = Has f.p f.state }) f.possible).1);
    } in
    (f.edge.0, f.edge.1, subst (λ e. Breaks s e fault) is there)

pub findings_are : (places points : ℕ) (edges : List Edge) (s : Search) (found list : List Ranked) → IsExplored places points edges s → All (Fits places points) edges → ((r : Ranked) → Contains found r ↔ BreaksBelow s edges (length edges) (fault_of r)) → IsStrictlySortedBy ghosts.cmp list → ((r : Ranked) → Contains list r ↔ Contains found r) → AreFindings edges (map fault_of list)
findings_are places points edges s found list x h f o m = record {
  sound = λ fault c. subst (λ e. IsFinding edges e) (fault_back fault)
      (breaks_finding places points edges s (fault_of (ranked fault)) x h ((f (ranked fault)).0 ((m (ranked fault)).0 ((unranked list fault).0 c))));
  complete = λ fault c. (unranked list fault).1 ((m (ranked fault)).1 ((f (ranked fault)).1
      (subst (λ e. BreaksBelow s edges (length edges) e) (sym (fault_back fault)) (finding_breaks places points edges s fault x c))));
  ordered = in_order list o;
}

less_or : (j k : ℕ) → j < k + 1 → (j < k) ⊎ (j ≡ k)
less_or j k h = ⊎_elim (λ z. inr z.1) (λ z. inl (omega (arith, h, z.1))) (eqb_tells j k)

-- a step of the loop over the edges
pub collect_more : (s : Search) (edges : List Edge) (k : ℕ) (edge : Edge) (old new : List Ranked) (o : Option Fault) → edge ≡ edge_at edges k → ((r : Ranked) → Contains old r ↔ BreaksBelow s edges k (fault_of r)) → ((r : Ranked) → Contains new r ↔ (Contains old r ⊎ (o ≡ Some (fault_of r)))) → ((fault : Fault) → o ≡ Some fault → Breaks s edge fault) → ((fault : Fault) → Breaks s edge fault → o ≡ Some fault) → (r : Ranked) → Contains new r ↔ BreaksBelow s edges (k + 1) (fault_of r)
collect_more s edges k edge old new o e a b c d r = (
  λ h. ⊎_elim
      (λ m. let n = (a r).0 m in (n.0, (let l : n.0 < k + 1 = omega (arith, n.1) in l), n.2))
      (λ q. (k, (let l : k < k + 1 = omega arith in l), subst (λ x. Breaks s x (fault_of r)) e (c (fault_of r) q)))
      ((b r).0 h),
  λ h. (b r).1 (⊎_elim
      (λ l. inl ((a r).1 (h.0, l, h.2)))
      (λ q. inr (d (fault_of r) (subst (λ x. Breaks s x (fault_of r)) (ap (edge_at edges) q ∙ sym e) h.2)))
      (less_or h.0 k h.1)),
)

pub if_some_at : (o : Option Fault) (P : Fault → Type 0) → IfSome o P → (f : Fault) → o ≡ Some f → P f
if_some_at o P h f e = subst (λ q. IfSome q P) e h
