use Rattle.model_macros.specs.Expansion.{Answer}
use Rattle.pp_macros.specs.Progress.{From, work}
use Rattle.pp_macros.proofs.expansion.expand_run.Given as goal

abbrev pub invariant-loop-out : goal.invariant-loop-out
invariant-loop-out l = (a : Answer) → From l.table l.state l.made a → From l.table l.initial.state l.initial.made a

abbrev pub decreases-loop-out : goal.decreases-loop-out
decreases-loop-out l = work l.state l.made
