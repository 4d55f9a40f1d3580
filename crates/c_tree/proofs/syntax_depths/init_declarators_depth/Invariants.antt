use Rattle.std.proofs.Common.{◌≡◌, max, drop}
use Rattle.c_tree.specs.SyntaxDepth.{init_declarators_depth, capped}
use Rattle.c_tree.specs.SyntaxViews.{init_declarators_of}
use Rattle.c_tree.proofs.syntax_depths.init_declarators_depth.Given as goal

abbrev pub invariant-loop-init_declarator : goal.invariant-loop-init_declarator
invariant-loop-init_declarator l = max l.depth (capped (init_declarators_depth (init_declarators_of (drop l.init_declarator-index l.init_declarators)))) ≡ capped (init_declarators_depth (init_declarators_of l.init_declarators))
