use Rattle.std.proofs.Common.{◌+◌, ◌≤◌, ◌<◌, length, ◌∙◌, ap, subst, arith}
use Rattle.own_flow.specs.Exploration.{Search, Grew, MadeOf, degree, step_cost, IsExplored}
use Rattle.own_flow.proofs.Exploring.{explore_start, explore_step, explore_cost, explore_less, explore_done, fresh}
use Rattle.own_flow.proofs.search.explore.Goals as goal

pub loop-node-init : goal.loop-node-init
loop-node-init g c = explore_start c.args.graph.now.places c.args.graph.now.points c.args.graph.now.edges c.in_ok-search.search c.mark.new.self c.args.steps.now c.edges-edges.ensures.fit
    (c.in_ok-search.ensures ∙ ap (λ p. fresh p c.points-points.result) c.places.ensures ∙ ap (λ q. fresh c.args.graph.now.places q) c.points-points.ensures.is)
    c.in_ok-mark.ensures

pub loop-node-smaller : goal.loop-node-smaller
loop-node-smaller g c = explore_less c.edges-edges.result.now c.loop-node.search c.next.new.self c.follow.new.self c.in-Some.node c.in-Some.ensures.taken c.in_ok-follow.ensures.grew

pub loop-node-preserved : goal.loop-node-preserved
loop-node-preserved g c = explore_step c.args.graph.now.places c.args.graph.now.points c.args.graph.now.edges c.loop-node.search c.next.new.self c.follow.new.self c.in-Some.node c.args.steps.now c.loop-node.steps c.follow.new.steps c.loop-node.invariant c.in-Some.ensures.taken c.in-Some.ensures.fits
    (subst (λ es. Grew (MadeOf c.next.new.self.places es c.in-Some.node) c.next.new.self c.follow.new.self) c.edges-edges.ensures.are c.in_ok-follow.ensures.grew)
    (subst (λ es. c.follow.new.steps ≤ c.loop-node.steps + step_cost c.in-Some.node.fact (degree es c.in-Some.node.point (length es))) c.edges-edges.ensures.are c.follow.ensures.cost)

pub returns-in_err-follow-clause-cost : goal.returns-in_err-follow-clause-cost
returns-in_err-follow-clause-cost g c = explore_cost c.args.graph.now.places c.args.graph.now.points c.args.graph.now.edges c.loop-node.search c.next.new.self c.in-Some.node c.args.steps.now c.loop-node.steps c.follow.new.steps c.loop-node.invariant c.in-Some.ensures.taken c.in-Some.ensures.fits
    (subst (λ es. c.follow.new.steps ≤ c.loop-node.steps + step_cost c.in-Some.node.fact (degree es c.in-Some.node.point (length es))) c.edges-edges.ensures.are c.follow.ensures.cost)

pub returns-clause-explored : goal.returns-clause-explored
returns-clause-explored g c =
    let some : 0 < c.args.graph.now.points = omega (arith, c.points-points.ensures.some, c.points-points.ensures.is) in
    subst (λ s. IsExplored c.args.graph.now.places c.args.graph.now.points c.args.graph.now.edges s) c.in_default.ensures.none
    (explore_done c.args.graph.now.places c.args.graph.now.points c.args.graph.now.edges c.loop-node.search c.args.steps.now c.loop-node.steps some c.edges-edges.ensures.fit c.loop-node.invariant (ap (λ (s : Search). s.waiting) c.in_default.ensures.none ∙ c.in_default.ensures.empty))
