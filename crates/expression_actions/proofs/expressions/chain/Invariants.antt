use Rattle.std.proofs.Common.{◌≡◌, length}
use Rattle.model_grammar.specs.SyntaxExprActions as e
use Rattle.syntax_meanings.specs.Meanings.{symbols_seen}
use Rattle.expression_actions.proofs.expressions.chain.Given as goal

abbrev pub invariant-loop-operand : goal.invariant-loop-operand
invariant-loop-operand l = e.chain l.left (symbols_seen l.symbols) ≡ e.chain l.initial.left (symbols_seen l.initial.symbols)

abbrev pub decreases-loop-operand : goal.decreases-loop-operand
decreases-loop-operand l = length (symbols_seen l.symbols)
