use Rattle.std.proofs.Common.{◌≡◌, ◌≤◌, length}
use Rattle.model_grammar.specs.SyntaxDeclarationActions as d
use Rattle.declarator_actions.proofs.PointerLists.{qualifiers_before}
use Rattle.syntax_meanings.specs.Meanings.{symbols_seen}
use Rattle.declarator_actions.proofs.pointers.qualifiers.Given as goal

abbrev pub invariant-loop-qualifier : goal.invariant-loop-qualifier
invariant-loop-qualifier l = (qualifiers_before l.qualifiers (d.qualifiers_in (symbols_seen l.symbols)) ≡ d.qualifiers_in (symbols_seen l.initial.symbols)) × (d.pointers_in (symbols_seen l.symbols) ≡ d.pointers_in (symbols_seen l.initial.symbols)) × (d.declarator_in (symbols_seen l.symbols) ≡ d.declarator_in (symbols_seen l.initial.symbols)) × (length (symbols_seen l.symbols) ≤ length (symbols_seen l.initial.symbols))

abbrev pub decreases-loop-qualifier : goal.decreases-loop-qualifier
decreases-loop-qualifier l = length (symbols_seen l.symbols)
