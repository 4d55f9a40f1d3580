use Rattle.std.proofs.Common.{◌≡◌, length}
use Rattle.model_grammar.specs.SyntaxDeclarationActions as d
use Rattle.declaration_actions.proofs.SpecLists.{before}
use Rattle.syntax_meanings.specs.Meanings.{symbols_seen}
use Rattle.declaration_actions.proofs.specifiers.specs_in.Given as goal

abbrev pub invariant-specs : goal.invariant-specs
invariant-specs l = before l.specs (d.specs_in (symbols_seen l.symbols)) ≡ d.specs_in (symbols_seen l.initial.symbols)

abbrev pub decreases-specs : goal.decreases-specs
decreases-specs l = length (symbols_seen l.symbols)
