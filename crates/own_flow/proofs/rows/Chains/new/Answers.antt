use Rattle.std.proofs.Common.{◌≡◌, ◌+◌, ◌-◌, ◌<◌, length, refl, ◌∙◌, subst, arith}
use Rattle.own_flow.specs.Chains.{ChainsFrom, edge_at, no_edge}
use Rattle.own_flow.proofs.ChainLaws.{chains_none, chains_more, number_is}
use Rattle.own_flow.proofs.rows.Chains.new.Goals as goal

pub loop-at-init : goal.loop-at-init
loop-at-init c = (chains_none c.args.edges.now c.args.points (length c.args.edges.now) c.in_ok-first.first.items c.in_ok-next.next.items refl (c.in_ok-first.ensures.items_if_clones_equal (λ y h. h)) (c.in_ok-next.ensures.items_if_clones_equal (λ y h. h)), omega arith)

pub loop-at-preserved : goal.loop-at-preserved
loop-at-preserved c =
    let i = c.loop-at.at - 1 in
    let e : c.loop-at.at ≡ i + 1 = omega (arith, c.loop-at-test.true) in
    let low : i < length c.args.edges.now = omega (arith, c.loop-at-test.true, c.loop-at.invariant.1) in
    let here : (edge_at c.args.edges.now i).from < c.args.points = c.requires i no_edge low in
    let room : (edge_at c.args.edges.now i).from < length c.loop-at.first.items = omega (arith, here, c.loop-at.invariant.0.points_len) in (
      chains_more c.args.edges.now c.args.points i (edge_at c.args.edges.now i).from c.index.result.now c.loop-at.first.items c.loop-at.next.items
          (subst (λ n. ChainsFrom c.args.edges.now c.args.points n c.loop-at.first.items c.loop-at.next.items) e c.loop-at.invariant.0)
          low refl here
          (c.index.ensures ∙ number_is c.loop-at.first.items (edge_at c.args.edges.now i).from c.index.result.now room),
      omega (arith, low),
    )
