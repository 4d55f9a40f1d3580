use Rattle.std.proofs.Common.{◌≡◌, max, drop}
use Rattle.c_tree.specs.SyntaxDepth.{initializer_items_depth, capped}
use Rattle.c_tree.specs.SyntaxViews.{initializer_items_of}
use Rattle.c_tree.proofs.syntax_depths.initializer_items_depth.Given as goal

abbrev pub invariant-loop-initializer_item : goal.invariant-loop-initializer_item
invariant-loop-initializer_item l = max l.depth (capped (initializer_items_depth (initializer_items_of (drop l.initializer_item-index l.initializer_items)))) ≡ capped (initializer_items_depth (initializer_items_of l.initializer_items))
