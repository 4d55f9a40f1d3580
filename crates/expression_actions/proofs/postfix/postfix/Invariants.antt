use Rattle.std.proofs.Common.{◌≡◌, length}
use Rattle.model_grammar.specs.SyntaxExprActions as e
use Rattle.syntax_meanings.specs.Meanings.{symbols_seen}
use Rattle.expression_actions.proofs.postfix.postfix.Given as goal

abbrev pub invariant-loop-sign : goal.invariant-loop-sign
invariant-loop-sign l = e.postfix l.expr (symbols_seen l.symbols) ≡ e.postfix l.initial.expr (symbols_seen l.initial.symbols)

abbrev pub decreases-loop-sign : goal.decreases-loop-sign
decreases-loop-sign l = length (symbols_seen l.symbols)
