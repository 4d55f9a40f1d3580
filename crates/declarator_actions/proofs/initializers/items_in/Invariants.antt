use Rattle.std.specs.Prelude.{◌≡◌, length}
use Rattle.model_grammar.specs.SyntaxStatementActions as s
use Rattle.declarator_actions.proofs.InitializerLists.{items_onto}
use Rattle.syntax_meanings.specs.Meanings.{symbols_seen}
use Rattle.declarator_actions.proofs.initializers.items_in.Given as goal

abbrev pub invariant-loop-symbol : goal.invariant-loop-symbol
invariant-loop-symbol l = items_onto l.items (s.items_in (symbols_seen l.symbols)) ≡ s.items_in (symbols_seen l.initial.symbols)

abbrev pub decreases-loop-symbol : goal.decreases-loop-symbol
decreases-loop-symbol l = length (symbols_seen l.symbols)
