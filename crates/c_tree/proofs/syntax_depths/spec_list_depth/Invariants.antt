use Rattle.std.proofs.Common.{◌≡◌, max, drop}
use Rattle.c_tree.specs.SyntaxDepth.{specs_depth, capped}
use Rattle.c_tree.specs.SyntaxViews.{specs_items}
use Rattle.c_tree.proofs.syntax_depths.spec_list_depth.Given as goal

abbrev pub invariant-loop-spec : goal.invariant-loop-spec
invariant-loop-spec l = max l.depth (capped (specs_depth (specs_items (drop l.spec-index l.specs)))) ≡ capped (specs_depth (specs_items l.specs))
