use Rattle.std.proofs.Common.{◌≡◌, ◌≤◌, ◌++◌, length}
use Rattle.model_macros.specs.MacroArguments.{parts}
use Rattle.pp_macros.proofs.ArgumentLaws.{to_first}
use Rattle.pp_macros.proofs.arguments.parts.Given as goal

abbrev pub invariant-loop-p : goal.invariant-loop-p
invariant-loop-p l = record {
  so_far : l.done ++ to_first l.part (parts l.remaining l.depth l.rest) ≡ parts l.initial.remaining 0 l.initial.rest;
  shallow : l.depth ≤ length l.part;
}

abbrev pub decreases-loop-p : goal.decreases-loop-p
decreases-loop-p l = length l.rest
