use Rattle.std.proofs.lemmas.Result.{on_ok_weaker}
use Rattle.own_flow.proofs.Crossing.{crossed_reached}
use Rattle.own_flow.proofs.search.Search.cross_reached.Goals as goal

pub returns : goal.returns
returns c = on_ok_weaker c.mark_set.result (λ h. crossed_reached c.args.self.now c.mark.new.self c.mark_set.new.self c.args.edge c.in_ok-mark.ensures h) c.mark_set.ensures
