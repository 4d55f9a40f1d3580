use Rattle.std.proofs.Common.{◌≡◌, max, drop}
use Rattle.c_tree.specs.SyntaxDepth.{enumerators_depth, capped}
use Rattle.c_tree.specs.SyntaxViews.{enumerators_of}
use Rattle.c_tree.proofs.syntax_depths.enumerators_depth.Given as goal

abbrev pub invariant-loop-enumerator : goal.invariant-loop-enumerator
invariant-loop-enumerator l = max l.depth (capped (enumerators_depth (enumerators_of (drop l.enumerator-index l.enumerators)))) ≡ capped (enumerators_depth (enumerators_of l.enumerators))
