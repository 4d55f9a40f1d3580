use Rattle.std.proofs.Common.{◌≡◌, ◌-◌, ◌++◌, take, drop}
use Rattle.pp_lines.proofs.parts.copy_range.Given as goal

abbrev pub invariant-loop-at : goal.invariant-loop-at
invariant-loop-at l = l.into ++ take (l.to - l.at) (drop l.at l.toks) ≡ l.initial.into ++ take (l.to - l.from) (drop l.from l.toks)
