use Rattle.std.proofs.lemmas.Result.{on_ok_weaker}
use Rattle.own_flow.proofs.Crossing.{five_states}
use Rattle.own_flow.proofs.search.Search.mark_states.Goals as goal

pub returns : goal.returns
returns c = on_ok_weaker c.mark_state-5.result (λ h. five_states c.args.self.now c.mark_state.new.self c.mark_state-2.new.self c.mark_state-3.new.self c.mark_state-4.new.self c.mark_state-5.new.self c.args.point c.args.place c.args.states c.in_ok-mark_state.ensures c.in_ok-mark_state-2.ensures c.in_ok-mark_state-3.ensures c.in_ok-mark_state-4.ensures h) c.mark_state-5.ensures
