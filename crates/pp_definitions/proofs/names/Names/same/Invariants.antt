use Rattle.std.proofs.Common.{◌≡◌, drop}
use Rattle.model_macros.specs.Macros.{same_names}
use Rattle.pp_definitions.proofs.names.Names.same.Given as goal

abbrev pub invariant-loop-rank : goal.invariant-loop-rank
invariant-loop-rank l = same_names (drop l.rank l.self) (drop l.rank l.other) ≡ same_names l.self l.other
