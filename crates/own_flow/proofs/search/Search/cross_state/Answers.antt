use Rattle.std.proofs.lemmas.Result.{on_ok_weaker}
use Rattle.own_flow.proofs.EffectLaws.{kept_fits}
use Rattle.own_flow.proofs.Crossing.{crossed_state}
use Rattle.own_flow.proofs.search.Search.cross_state.Goals as goal

pub mark_maybe-requires-clause-fact : goal.mark_maybe-requires-clause-fact
mark_maybe-requires-clause-fact c = kept_fits _ c.args.edge.action c.args.place c.args.state c.kept.result c.kept.ensures c.requires.edge.action c.requires.place

pub returns : goal.returns
returns c = on_ok_weaker c.mark_maybe-2.result (λ h. crossed_state c.args.self.now c.mark_maybe.new.self c.mark_maybe-2.new.self c.args.edge c.args.place c.args.state c.kept.result c.copied.result c.kept.ensures c.copied.ensures c.in_ok-mark_maybe.ensures h) c.mark_maybe-2.ensures
