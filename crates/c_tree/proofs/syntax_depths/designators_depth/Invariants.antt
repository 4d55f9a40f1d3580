use Rattle.std.proofs.Common.{◌≡◌, max, drop}
use Rattle.c_tree.specs.SyntaxDepth.{designators_depth, capped}
use Rattle.c_tree.specs.SyntaxViews.{designators_of}
use Rattle.c_tree.proofs.syntax_depths.designators_depth.Given as goal

abbrev pub invariant-loop-designator : goal.invariant-loop-designator
invariant-loop-designator l = max l.depth (capped (designators_depth (designators_of (drop l.designator-index l.designators)))) ≡ capped (designators_depth (designators_of l.designators))
