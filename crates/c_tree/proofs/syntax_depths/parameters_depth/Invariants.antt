use Rattle.std.proofs.Common.{◌≡◌, max, drop}
use Rattle.c_tree.specs.SyntaxDepth.{parameters_depth, capped}
use Rattle.c_tree.specs.SyntaxViews.{parameters_of}
use Rattle.c_tree.proofs.syntax_depths.parameters_depth.Given as goal

abbrev pub invariant-loop-parameter : goal.invariant-loop-parameter
invariant-loop-parameter l = max l.depth (capped (parameters_depth (parameters_of (drop l.parameter-index l.parameters)))) ≡ capped (parameters_depth (parameters_of l.parameters))
