use Rattle.std.proofs.Common.{◌≡◌, ◌++◌, drop}
use Rattle.pp_macros.proofs.pasting.headed.Given as goal

abbrev pub invariant-loop-p : goal.invariant-loop-p
invariant-loop-p l = l.row ++ drop l.p-index l.rest ≡ l.initial.row ++ l.rest
