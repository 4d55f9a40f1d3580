use Rattle.std.proofs.Common.{◌≡◌, max, drop}
use Rattle.c_tree.specs.SyntaxDepth.{member_declarations_depth, capped}
use Rattle.c_tree.specs.SyntaxViews.{member_declarations_of}
use Rattle.c_tree.proofs.syntax_depths.member_declarations_depth.Given as goal

abbrev pub invariant-loop-member_declaration : goal.invariant-loop-member_declaration
invariant-loop-member_declaration l = max l.depth (capped (member_declarations_depth (member_declarations_of (drop l.member_declaration-index l.member_declarations)))) ≡ capped (member_declarations_depth (member_declarations_of l.member_declarations))
