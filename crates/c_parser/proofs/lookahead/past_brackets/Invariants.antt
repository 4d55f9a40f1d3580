use Rattle.std.specs.Prelude.{◌≡◌, ◌≤◌, ◌+◌, length}
use Rattle.grammar_laws.specs.ParserTests.{past_brackets}
use Rattle.c_parser.proofs.lookahead.past_brackets.Given as goal

abbrev pub invariant-loop-first : goal.invariant-loop-first
invariant-loop-first l = (past_brackets l.depth l.rest ≡ past_brackets 0 l.tokens) × (l.depth + length l.rest ≤ length l.tokens)

abbrev pub decreases-loop-first : goal.decreases-loop-first
decreases-loop-first l = length l.rest
