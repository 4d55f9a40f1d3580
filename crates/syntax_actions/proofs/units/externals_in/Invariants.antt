use Rattle.std.specs.Prelude.{◌≡◌, length}
use Rattle.model_grammar.specs.SyntaxDeclarationActions as d
use Rattle.syntax_actions.proofs.ExternalLists.{externals_onto}
use Rattle.syntax_meanings.specs.Meanings.{symbols_seen}
use Rattle.syntax_actions.proofs.units.externals_in.Given as goal

abbrev pub invariant-externals : goal.invariant-externals
invariant-externals l = externals_onto l.externals (d.externals_in (symbols_seen l.symbols)) ≡ d.externals_in (symbols_seen l.initial.symbols)

abbrev pub decreases-externals : goal.decreases-externals
decreases-externals l = length (symbols_seen l.symbols)
