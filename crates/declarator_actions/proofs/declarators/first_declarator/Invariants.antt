use Rattle.std.proofs.Common.{◌≡◌, length}
use Rattle.model_grammar.specs.SyntaxDeclarationActions as d
use Rattle.syntax_meanings.specs.Meanings.{symbols_seen}
use Rattle.declarator_actions.proofs.declarators.first_declarator.Given as goal

abbrev pub invariant-loop-symbol : goal.invariant-loop-symbol
invariant-loop-symbol l = d.declarator_in (symbols_seen l.symbols) ≡ d.declarator_in (symbols_seen l.initial.symbols)

abbrev pub decreases-loop-symbol : goal.decreases-loop-symbol
decreases-loop-symbol l = length (symbols_seen l.symbols)
