use Rattle.std.specs.Prelude.{◌≡◌, length}
use Rattle.model_grammar.specs.SyntaxStatementActions as s
use Rattle.statement_actions.proofs.BlockItemLists.{block_items_onto}
use Rattle.syntax_meanings.specs.Meanings.{symbols_seen}
use Rattle.statement_actions.proofs.blocks.block_items_in.Given as goal

abbrev pub invariant-loop-symbol : goal.invariant-loop-symbol
invariant-loop-symbol l = block_items_onto l.items (s.block_items_in (symbols_seen l.symbols)) ≡ s.block_items_in (symbols_seen l.initial.symbols)

abbrev pub decreases-loop-symbol : goal.decreases-loop-symbol
decreases-loop-symbol l = length (symbols_seen l.symbols)
