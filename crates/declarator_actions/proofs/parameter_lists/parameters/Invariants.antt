use Rattle.std.proofs.Common.{◌≡◌, true, if◌then◌else◌, length}
use Rattle.model_grammar.specs.SyntaxDeclarationActions as d
use Rattle.declarator_actions.proofs.ParameterLists.{before}
use Rattle.syntax_meanings.specs.Meanings.{symbols_seen}
use Rattle.declarator_actions.proofs.parameter_lists.parameters.Given as goal

abbrev pub invariant-loop-symbol : goal.invariant-loop-symbol
invariant-loop-symbol l = (before l.parameters (d.parameters_in (symbols_seen l.symbols)) ≡ d.parameters_in (symbols_seen l.initial.symbols)) × ((if l.is_variadic then true else d.is_variadic (symbols_seen l.symbols)) ≡ d.is_variadic (symbols_seen l.initial.symbols))

abbrev pub decreases-loop-symbol : goal.decreases-loop-symbol
decreases-loop-symbol l = length (symbols_seen l.symbols)
