use Rattle.std.proofs.Common.{◌∙◌}
use Rattle.pp_macros.proofs.GoOnLaws.{run-done}
use Rattle.pp_macros.proofs.expansion.expand_run.Goals as goal

pub returns-in-Done : goal.returns-in-Done
returns-in-Done c =
    let g = rw c.in-Done.is at c.in_ok-out.ensures.gives in
    run-done c.args.table.now c.args.run c.args.made.now c.loop-out.made c.step.new.made c.in-Done.out c.new-2.result c.loop-out.state.calls c.new-3.result c.new-4.result c.loop-out.state.pending c.loop-out.state.out
    c.loop-out.invariant (c.new-2.ensures ∙ c.new.ensures) c.new-3.ensures c.new-4.ensures g.0 g.1
