use Rattle.std.specs.Prelude.{◌≡◌, ◌≤◌, ◌+◌, ◌^◌, length, true}
use Rattle.model_grammar.specs.declared.grammar.Within.TheVariants.{Between}
use Rattle.grammar_laws.specs.ParserTests.{lacks_enumeration, within}
use Rattle.c_parser.proofs.lookahead.lacks_enumeration.Given as goal

abbrev pub invariant-loop-first : goal.invariant-loop-first
invariant-loop-first l = (lacks_enumeration l.waiting l.place l.names l.rest ≡ lacks_enumeration l.names.reading.waiting (Between true) l.names l.tokens) × (within l.place + length l.rest ≤ length l.tokens) × (l.waiting + length l.rest ≤ 2 ^ 32 + length l.tokens)

abbrev pub decreases-loop-first : goal.decreases-loop-first
decreases-loop-first l = length l.rest
