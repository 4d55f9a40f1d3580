use Rattle.std.proofs.Common.{◌≡◌, max, drop}
use Rattle.c_tree.specs.SyntaxDepth.{exprs_depth, capped}
use Rattle.model_grammar.specs.SyntaxForms as m
use Rattle.c_tree.proofs.syntax_depths.exprs_depth.Given as goal

abbrev pub invariant-loop-expr : goal.invariant-loop-expr
invariant-loop-expr l = max l.depth (capped (exprs_depth (m.exprs (drop l.expr-index l.exprs)))) ≡ capped (exprs_depth (m.exprs l.exprs))
