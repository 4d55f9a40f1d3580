use Rattle.std.proofs.Common.{◌≡◌, ◌++◌, map, length}
use Rattle.pp_macros.proofs.expansion.into_list.Given as goal

abbrev pub invariant-loop-p : goal.invariant-loop-p
invariant-loop-p l = l.list ++ map (λ p. p.tok) l.rest ≡ map (λ p. p.tok) l.initial.rest

abbrev pub decreases-loop-p : goal.decreases-loop-p
decreases-loop-p l = length l.rest
