use Rattle.std.proofs.Common.{◌≡◌, ◌++◌, map, length}
use Rattle.model_macros.specs.Substitution.{unreplaced}
use Rattle.pp_macros.proofs.substitution.unreplaced.Given as goal

abbrev pub invariant-loop-run : goal.invariant-loop-run
invariant-loop-run l = l.args.items ++ map unreplaced l.rest ≡ map unreplaced l.initial.rest

abbrev pub decreases-loop-run : goal.decreases-loop-run
decreases-loop-run l = length l.rest
