use Rattle.std.proofs.Common.{◌≡◌, ◌++◌, drop, false}
use Rattle.model_macros.specs.Substitution.{uses_from}
use Rattle.pp_macros.proofs.substitution.uses.Given as goal

abbrev pub invariant-loop-piece : goal.invariant-loop-piece
invariant-loop-piece l = l.row ++ uses_from l.last l.optional (drop l.piece-index l.body) ≡ uses_from l.last false l.body
