use Rattle.std.proofs.Common.{◌≡◌, ◌++◌, drop}
use Rattle.model_macros.specs.HideSets.{common}
use Rattle.pp_macros.proofs.hides.Hides.common.Given as goal

abbrev pub invariant-loop-rank : goal.invariant-loop-rank
invariant-loop-rank l = l.both ++ common (drop l.rank-index l.self) l.other ≡ common l.self l.other
