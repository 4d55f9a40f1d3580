use Rattle.std.proofs.Common.{◌≡◌, ◌++◌, drop}
use Rattle.model_preprocessing.specs.Sources.{standing_all}
use Rattle.pp_directives.proofs.unit.standing_all.Given as goal

abbrev pub invariant-loop-at : goal.invariant-loop-at
invariant-loop-at l = l.list ++ standing_all l.count (drop l.at l.toks) ≡ standing_all l.count l.toks
