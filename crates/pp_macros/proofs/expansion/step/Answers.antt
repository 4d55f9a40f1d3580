use Rattle.std.proofs.Common.{refl, length, ◌+◌}
use Rattle.std.proofs.lemmas.Result.{err_from_is_err_and}
use Rattle.pp_macros.specs.Machine.{all_weight}
use Rattle.pp_macros.proofs.GoOnLaws.{done_at, step-stops, step-gives, step-shrinks}
use Rattle.pp_macros.proofs.expansion.step.Goals as goal

pub returns-in-None-pop-clause-gives : goal.returns-in-None-pop-clause-gives
returns-in-None-pop-clause-gives c = (refl, done_at c.args.table.now c.args.state.calls c.args.state.pending c.args.state.out c.args.made.now c.in-None-pop.ensures.0 c.in-None.ensures.0)

pub returns-in_err-next-in-Some-pop-clause-stops : goal.returns-in_err-next-in-Some-pop-clause-stops
returns-in_err-next-in-Some-pop-clause-stops c =
    let q = err_from_is_err_and c.from_residual-in_err-next-in-Some-pop.result c.from_residual-in_err-next-in-Some-pop.ensures.1 in
    let h = step-stops c.args.table.now c.args.state.calls c.pop-in-None.new.self c.in-Some-pop.call c.resumed.result c.args.state.pending c.args.state.out c.args.made.now c.go_on.new.made c.in_err-next-in-Some-pop.field-0.0
    c.in-None.ensures.0 c.in-Some-pop.ensures c.resumed.ensures c.in_err-next-in-Some-pop.ensures.stops in
    rw (q.1, q.2) h

pub returns-clause-gives : goal.returns-clause-gives
returns-clause-gives c = (
  λ a g. step-gives c.args.table.now c.args.state.calls c.pop-in-None.new.self c.in-Some-pop.call c.resumed.result c.args.state.pending c.args.state.out c.args.made.now a
      c.in-None.ensures.0 c.in-Some-pop.ensures c.resumed.ensures (c.in_ok-next-in-Some-pop.ensures.gives a g),
  step-shrinks c.args.state.calls c.pop-in-None.new.self c.in-Some-pop.call c.resumed.result c.args.state.pending c.args.state.out c.args.made.now c.go_on.new.made
      (length c.in_ok-next-in-Some-pop.next.pending + all_weight c.in_ok-next-in-Some-pop.next.calls) c.in-None.ensures.0 c.in-Some-pop.ensures c.resumed.ensures c.in_ok-next-in-Some-pop.ensures.shrinks,
)
