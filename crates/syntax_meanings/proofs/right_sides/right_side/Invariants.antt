use Rattle.std.proofs.Common.{List, length}
use Rattle.model_grammar.specs.SyntaxValues as v
use Rattle.syntax_meanings.proofs.RightSideLaws.{IsRead}
use Rattle.syntax_meanings.proofs.right_sides.right_side.Given as goal

abbrev pub invariant-loop-value : goal.invariant-loop-value
invariant-loop-value l = (read : List v.Value) × IsRead l.initial.values l.values l.right read

abbrev pub decreases-loop-value : goal.decreases-loop-value
decreases-loop-value l = length l.values
