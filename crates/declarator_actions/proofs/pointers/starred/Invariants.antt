use Rattle.std.proofs.Common.{◌≡◌, length}
use Rattle.model_grammar.specs.SyntaxDeclarationActions as d
use Rattle.declarator_actions.specs.Found.{found_or}
use Rattle.declarator_actions.proofs.PointerLists.{pointers_before}
use Rattle.syntax_meanings.specs.Meanings.{symbols_seen}
use Rattle.declarator_actions.proofs.pointers.starred.Given as goal

abbrev pub invariant-loop-symbol : goal.invariant-loop-symbol
invariant-loop-symbol l = (pointers_before l.pointers (d.pointers_in (symbols_seen l.symbols)) ≡ d.pointers_in (symbols_seen l.initial.symbols)) × (found_or l.inner (d.declarator_in (symbols_seen l.symbols)) ≡ d.declarator_in (symbols_seen l.initial.symbols))

abbrev pub decreases-loop-symbol : goal.decreases-loop-symbol
decreases-loop-symbol l = length (symbols_seen l.symbols)
