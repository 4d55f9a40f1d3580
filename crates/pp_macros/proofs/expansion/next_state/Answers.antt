use Rattle.pp_macros.proofs.MachineLaws.{kept}
use Rattle.pp_macros.proofs.expansion.next_state.Goals as goal

pub returns-in-None-clause-gives : goal.returns-in-None-clause-gives
returns-in-None-clause-gives c = λ a g. kept c.args.table.now c.args.state.calls c.args.p c.args.state.pending c.args.state.out c.push.new.self c.args.made.now a c.in-None.ensures c.in_ok-push-in-None.ensures g
