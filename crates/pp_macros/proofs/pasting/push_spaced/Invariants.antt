use Rattle.std.proofs.Common.{◌≡◌, ◌++◌, drop}
use Rattle.model_macros.specs.Pasting.{spaced}
use Rattle.pp_macros.proofs.pasting.push_spaced.Given as goal

abbrev pub invariant-loop-p : goal.invariant-loop-p
invariant-loop-p l = l.text ++ spaced (drop l.p-index l.run) ≡ l.initial.text ++ spaced l.run
