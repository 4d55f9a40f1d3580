use Rattle.std.specs.Prelude.{◌≡◌, length}
use Rattle.model_grammar.specs.SyntaxStatementActions as s
use Rattle.declarator_actions.proofs.InitializerLists.{designators_onto}
use Rattle.syntax_meanings.specs.Meanings.{symbols_seen}
use Rattle.declarator_actions.proofs.initializers.item.Given as goal

abbrev pub invariant-designators : goal.invariant-designators
invariant-designators l = s.item_behind (designators_onto l.designators (s.designators_in (symbols_seen l.symbols))) (symbols_seen l.symbols) ≡ s.item (symbols_seen l.initial.symbols)

abbrev pub decreases-designators : goal.decreases-designators
decreases-designators l = length (symbols_seen l.symbols)
