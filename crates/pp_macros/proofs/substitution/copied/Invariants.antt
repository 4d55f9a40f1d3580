use Rattle.std.proofs.Common.{◌≡◌, ◌++◌, drop}
use Rattle.pp_macros.proofs.substitution.copied.Given as goal

abbrev pub invariant-loop-p : goal.invariant-loop-p
invariant-loop-p l = l.row ++ drop l.p-index l.run ≡ l.run
