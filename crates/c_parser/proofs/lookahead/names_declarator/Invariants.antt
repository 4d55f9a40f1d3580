use Rattle.std.specs.Prelude.{◌≡◌, ◌≤◌, ◌+◌, length}
use Rattle.model_grammar.specs.declared.grammar.Before.TheVariants.{AtStart}
use Rattle.grammar_laws.specs.ParserTests.{names_declarator, opened}
use Rattle.c_parser.proofs.lookahead.names_declarator.Given as goal

abbrev pub invariant-loop-first : goal.invariant-loop-first
invariant-loop-first l = (names_declarator l.before l.names l.rest ≡ names_declarator (AtStart l.names.reading.typed) l.names l.tokens) × (opened l.before + length l.rest ≤ length l.tokens)

abbrev pub decreases-loop-first : goal.decreases-loop-first
decreases-loop-first l = length l.rest
