use Rattle.std.proofs.Common.{◌≡◌, ◌↔◌, length, arith, refl, subst, Contains}
use Rattle.own_flow.specs.declared.ranks.Ranked.{Ranked}
use Rattle.own_flow.specs.Chains.{edge_at}
use Rattle.own_flow.specs.Ranks.{fault_of}
use Rattle.own_flow.specs.Exploration.{Breaks, BreaksBelow}
use Rattle.own_flow.proofs.FindingLaws.{collect_more, if_some_at}
use Rattle.own_flow.proofs.finds.collect.Goals as goal

pub loop-edge-preserved : goal.loop-edge-preserved
loop-edge-preserved c = collect_more c.args.search.now c.args.edges.now c.loop-edge.edge-index (edge_at c.args.edges.now c.loop-edge.edge-index) c.loop-edge.list.items c.add_maybe.new.list.items c.broken.result refl c.loop-edge.invariant c.in_ok-add_maybe.ensures
    (if_some_at c.broken.result (λ f. Breaks c.args.search.now (edge_at c.args.edges.now c.loop-edge.edge-index) f) c.broken.ensures.sound)
    c.broken.ensures.complete

pub returns : goal.returns
returns c =
    let e : c.loop-edge.edge-index ≡ length c.args.edges.now = omega (arith, c.loop-edge-test.false, c.loop-edge.auto.edge-index-end) in
    subst (λ n. (r : Ranked) → Contains c.loop-edge.list.items r ↔ BreaksBelow c.args.search.now c.args.edges.now n (fault_of r)) e c.loop-edge.invariant
