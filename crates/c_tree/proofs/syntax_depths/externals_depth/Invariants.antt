use Rattle.std.proofs.Common.{◌≡◌, max, drop}
use Rattle.c_tree.specs.SyntaxDepth.{externals_depth, capped}
use Rattle.c_tree.specs.SyntaxViews.{externals_of}
use Rattle.c_tree.proofs.syntax_depths.externals_depth.Given as goal

abbrev pub invariant-loop-external : goal.invariant-loop-external
invariant-loop-external l = max l.depth (capped (externals_depth (externals_of (drop l.external-index l.externals)))) ≡ capped (externals_depth (externals_of l.externals))
