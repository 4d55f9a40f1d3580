use Rattle.std.proofs.Common.{◌≡◌, ◌≤◌, length}
use Rattle.model_macros.specs.MacroArguments.{inside, placed}
use Rattle.pp_macros.proofs.ArgumentLaws.{all_in_front}
use Rattle.pp_macros.proofs.arguments.inside.Given as goal

abbrev pub invariant-loop-p : goal.invariant-loop-p
invariant-loop-p l = record {
  so_far : all_in_front l.row (placed l.place (inside l.depth l.pending)) ≡ placed l.place (inside 0 l.initial.pending);
  shallow : l.depth ≤ length l.row;
}

abbrev pub decreases-loop-p : goal.decreases-loop-p
decreases-loop-p l = length l.pending
