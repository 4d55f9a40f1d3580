use Rattle.std.proofs.Common.{◌+◌, ◌<◌, length, sym, ◌∙◌, subst, arith}
use Rattle.own_flow.specs.Chains.{IsNext, edge_at}
use Rattle.own_flow.proofs.ChainLaws.{number_is}
use Rattle.own_flow.proofs.Following.{followed_none, followed_more, followed_cost}
use Rattle.own_flow.proofs.search.Search.follow.Goals as goal

pub loop-at-init : goal.loop-at-init
loop-at-init g c =
    let there : c.args.node.point < length c.args.chains.now.first.items = omega (arith, c.requires.node.point, c.requires.chains.points_len) in
    followed_none c.args.edges.now c.args.node c.index-at.result.now c.args.self.now c.args.steps.now
    (subst (λ n. IsNext c.args.edges.now c.args.node.point 0 n) (sym (c.index-at.ensures ∙ number_is c.args.chains.now.first.items c.args.node.point c.index-at.result.now there)) (c.requires.chains.firsts c.args.node.point c.requires.node.point))

pub returns-in_err-cross-clause-cost : goal.returns-in_err-cross-clause-cost
returns-in_err-cross-clause-cost g c = followed_cost c.args.edges.now c.args.node c.loop-at.at c.args.self.now c.loop-at.self c.args.steps.now c.loop-at.steps c.count.new.steps c.loop-at.invariant c.loop-at-test.true c.count.ensures

pub loop-at-preserved : goal.loop-at-preserved
loop-at-preserved g c =
    let there : c.loop-at.at < length c.args.chains.now.next.items = omega (arith, c.loop-at-test.true, c.requires.chains.edges_len) in
    followed_more c.args.edges.now c.args.node c.loop-at.at c.index-at-in-loop-at.result.now c.args.self.now c.loop-at.self c.cross.new.self c.args.steps.now c.loop-at.steps c.count.new.steps c.loop-at.invariant c.loop-at-test.true
    c.in_ok-cross.ensures
    (subst (λ n. IsNext c.args.edges.now (edge_at c.args.edges.now c.loop-at.at).from (c.loop-at.at + 1) n) (sym (c.index-at-in-loop-at.ensures ∙ number_is c.args.chains.now.next.items c.loop-at.at c.index-at-in-loop-at.result.now there)) (c.requires.chains.nexts c.loop-at.at (omega arith) c.loop-at-test.true))
    c.count.ensures
