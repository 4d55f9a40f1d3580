use Rattle.std.proofs.Common.{◌≡◌, ◌++◌, drop, not}
use Rattle.std.specs.List.{filter}
use Rattle.model_macros.specs.HideSets.{holds, union}
use Rattle.pp_macros.proofs.hides.Hides.union.Given as goal

abbrev pub invariant-loop-rank : goal.invariant-loop-rank
invariant-loop-rank l = l.all ++ filter (λ n. not (holds n l.self)) (drop l.rank-index l.other) ≡ union l.self l.other
