use Rattle.std.proofs.Common.{◌≡◌, ◌++◌, map, drop}
use Rattle.model_checking.specs.Ways.{Step}
use Rattle.check_ways.proofs.way.push_ranks.Given as goal

abbrev pub invariant-loop-step : goal.invariant-loop-step
invariant-loop-step l = l.path ++ map (λ (s : Step). s.rank) (drop l.step-index l.steps) ≡ l.initial.path ++ map (λ (s : Step). s.rank) l.steps
