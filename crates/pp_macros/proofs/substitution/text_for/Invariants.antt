use Rattle.std.proofs.Common.{◌≡◌, ◌++◌, map, length}
use Rattle.model_macros.specs.Substitution.{paint}
use Rattle.pp_macros.proofs.substitution.text_for.Given as goal

abbrev pub invariant-loop-p : goal.invariant-loop-p
invariant-loop-p l = l.row ++ map (paint l.name.place l.hides) l.rest ≡ l.initial.row ++ map (paint l.name.place l.hides) l.initial.rest

abbrev pub decreases-loop-p : goal.decreases-loop-p
decreases-loop-p l = length l.rest
