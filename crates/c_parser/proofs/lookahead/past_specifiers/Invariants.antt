use Rattle.std.specs.Prelude.{◌≡◌, ◌≤◌, ◌+◌, length}
use Rattle.model_grammar.specs.declared.grammar.Within.TheVariants.{Between}
use Rattle.grammar_laws.specs.ParserTests.{past_specifiers, within}
use Rattle.c_parser.proofs.lookahead.past_specifiers.Given as goal

abbrev pub invariant-loop-first : goal.invariant-loop-first
invariant-loop-first l = (past_specifiers l.place l.names l.rest ≡ past_specifiers (Between l.typed) l.names l.tokens) × (within l.place + length l.rest ≤ length l.tokens)

abbrev pub decreases-loop-first : goal.decreases-loop-first
decreases-loop-first l = length l.rest
