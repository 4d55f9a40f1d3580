use Rattle.std.proofs.Common.{◌≡◌, max, drop}
use Rattle.c_tree.specs.SyntaxDepth.{block_items_depth, capped}
use Rattle.c_tree.specs.SyntaxViews.{block_items_of}
use Rattle.c_tree.proofs.syntax_depths.block_items_depth.Given as goal

abbrev pub invariant-loop-block_item : goal.invariant-loop-block_item
invariant-loop-block_item l = max l.depth (capped (block_items_depth (block_items_of (drop l.block_item-index l.block_items)))) ≡ capped (block_items_depth (block_items_of l.block_items))
