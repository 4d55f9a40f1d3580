use Rattle.std.specs.Prelude.{◌≡◌, length}
use Rattle.model_grammar.specs.SyntaxStatementActions as s
use Rattle.c_tree.specs.SyntaxViews.{designators_of}
use Rattle.syntax_meanings.specs.Meanings.{symbols_seen}
use Rattle.declarator_actions.proofs.initializers.item_behind.Given as goal

abbrev pub invariant-loop-symbol : goal.invariant-loop-symbol
invariant-loop-symbol l = s.item_behind (designators_of l.designators) (symbols_seen l.symbols) ≡ s.item_behind (designators_of l.designators) (symbols_seen l.initial.symbols)

abbrev pub decreases-loop-symbol : goal.decreases-loop-symbol
decreases-loop-symbol l = length (symbols_seen l.symbols)
