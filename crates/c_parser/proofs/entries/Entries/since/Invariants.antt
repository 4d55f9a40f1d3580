use Rattle.std.specs.Prelude.{◌≡◌, ◌++◌, ◌-◌, length, drop}
use Rattle.c_parser.proofs.entries.Entries.since.Given as goal

abbrev pub invariant-loop-kept : goal.invariant-loop-kept
invariant-loop-kept l = l.entries ++ drop l.at l.self ≡ drop l.count l.self

abbrev pub decreases-loop-kept : goal.decreases-loop-kept
decreases-loop-kept l = length l.self - l.at
