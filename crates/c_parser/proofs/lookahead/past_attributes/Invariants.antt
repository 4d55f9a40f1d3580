use Rattle.std.specs.Prelude.{◌≡◌, ◌≤◌, ◌+◌, length}
use Rattle.grammar_laws.specs.ParserTests.{past_attributes}
use Rattle.c_parser.proofs.lookahead.past_attributes.Given as goal

abbrev pub invariant-loop-first : goal.invariant-loop-first
invariant-loop-first l = (past_attributes l.depth l.rest ≡ past_attributes 0 l.tokens) × (l.depth + length l.rest ≤ length l.tokens)

abbrev pub decreases-loop-first : goal.decreases-loop-first
decreases-loop-first l = length l.rest
