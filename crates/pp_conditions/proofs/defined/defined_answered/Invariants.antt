use Rattle.std.proofs.Common.{◌≡◌, ◌-◌, length}
use Rattle.model_conditions.specs.Defined.{answered_from}
use Rattle.pp_conditions.specs.Lines.{answered_at, with_front}
use Rattle.pp_conditions.proofs.defined.defined_answered.Given as goal

abbrev pub invariant-loop-at : goal.invariant-loop-at
invariant-loop-at l = with_front l.out (answered_at l.table.entries l.line l.at) ≡ answered_from l.table.entries 0 l.line

abbrev pub decreases-loop-at : goal.decreases-loop-at
decreases-loop-at l = length l.line - l.at
