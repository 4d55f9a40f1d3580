use Rattle.std.proofs.Common.{◌≡◌, ◌++◌, drop, map}
use Rattle.model_macros.specs.Pasting.{fresh}
use Rattle.pp_macros.proofs.expansion.fresh_run.Given as goal

abbrev pub invariant-loop-at : goal.invariant-loop-at
invariant-loop-at l = l.run ++ map fresh (drop l.at l.toks) ≡ map fresh l.toks
