use Rattle.std.proofs.Common.{◌≡◌, max, drop}
use Rattle.c_tree.specs.SyntaxDepth.{suffixes_depth, capped}
use Rattle.c_tree.specs.SyntaxViews.{suffixes_of}
use Rattle.c_tree.proofs.syntax_depths.suffixes_depth.Given as goal

abbrev pub invariant-loop-suffix : goal.invariant-loop-suffix
invariant-loop-suffix l = max l.depth (capped (suffixes_depth (suffixes_of (drop l.suffix-index l.suffixes)))) ≡ capped (suffixes_depth (suffixes_of l.suffixes))
