use Rattle.std.proofs.Common.{◌+◌, ◌*◌, length}
use Rattle.model_grammar.specs.GrammarForm.{rule, many, loop}
use Rattle.grammar_laws.specs.apparatus.LeftWeights.{weight}
use Rattle.c_parser.specs.View.{form}
use Rattle.syntax_meanings.specs.Meanings.{values_seen}
use Rattle.c_parser.proofs.ReaderTurns.{Turning}
use Rattle.c_parser.proofs.reader.+read.Given as goal

abbrev pub decreases-read : goal.decreases-read
decreases-read l = 4 * (length l.reader.now.rest.now * 256 + weight (form l.f.now)) + 2

abbrev pub decreases-read_rule : goal.decreases-read_rule
decreases-read_rule l = 4 * (length l.reader.now.rest.now * 256 + weight (rule l.rule)) + 1

abbrev pub decreases-read_many : goal.decreases-read_many
decreases-read_many l = 4 * (length l.reader.now.rest.now * 256 + weight (many (form l.f.now))) + 1

abbrev pub decreases-read_loop : goal.decreases-read_loop
decreases-read_loop l = 4 * (length l.reader.now.rest.now * 256 + weight (loop l.test (form l.f.now))) + 1

abbrev pub decreases-read_turn : goal.decreases-read_turn
decreases-read_turn l = 4 * (length l.reader.now.rest.now * 256 + weight (form l.f.now)) + 3

abbrev pub invariant-read_many-loop-alloc : goal.invariant-read_many-loop-alloc
invariant-read_many-loop-alloc l = Turning l.tokens (many (form l.f)) l.context l.fn.reader l.reader (values_seen l.fn.out) (values_seen l.out)

abbrev pub decreases-read_many-loop-alloc : goal.decreases-read_many-loop-alloc
decreases-read_many-loop-alloc l = length l.reader.rest.now

abbrev pub invariant-read_loop-loop-alloc : goal.invariant-read_loop-loop-alloc
invariant-read_loop-loop-alloc l = Turning l.tokens (loop l.test (form l.f)) l.context l.fn.reader l.reader (values_seen l.fn.out) (values_seen l.out)

abbrev pub decreases-read_loop-loop-alloc : goal.decreases-read_loop-loop-alloc
decreases-read_loop-loop-alloc l = length l.reader.rest.now
