use Rattle.std.proofs.Common.{◌≡◌, ◌-◌, drop}
use Rattle.c_tokens.proofs.scan.skip.Given as goal

abbrev pub invariant-loop-i : goal.invariant-loop-i
invariant-loop-i l = drop (l.n - l.i) l.from ≡ drop l.n l.initial.from
