use Rattle.std.proofs.Common.{◌≡◌, max, drop}
use Rattle.c_tree.specs.SyntaxDepth.{declarators_depth, capped}
use Rattle.model_grammar.specs.SyntaxForms as m
use Rattle.c_tree.proofs.syntax_depths.declarators_depth.Given as goal

abbrev pub invariant-loop-declarator : goal.invariant-loop-declarator
invariant-loop-declarator l = max l.depth (capped (declarators_depth (m.declarators (drop l.declarator-index l.declarators)))) ≡ capped (declarators_depth (m.declarators l.declarators))
