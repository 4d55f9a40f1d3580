use Rattle.std.proofs.Common.{◌≡◌, ◌≤◌, [], length}
use Rattle.model_grammar.specs.SyntaxExprActions as e
use Rattle.syntax_meanings.specs.Meanings.{symbols_seen}
use Rattle.expression_actions.proofs.postfix.call.Given as goal

abbrev pub invariant-loop-symbol : goal.invariant-loop-symbol
invariant-loop-symbol l = (e.call l.fn.function l.fn.place [] (symbols_seen l.initial.symbols) ≡ e.call l.function l.fn.place l.arguments (symbols_seen l.symbols)) × (length (symbols_seen l.symbols) ≤ length (symbols_seen l.initial.symbols))

abbrev pub decreases-loop-symbol : goal.decreases-loop-symbol
decreases-loop-symbol l = length (symbols_seen l.symbols)
