use Rattle.std.proofs.Common.{ap, sym, subst, ◌∙◌}
use Rattle.std.proofs.lemmas.Result.{err_from_is_err_and}
use Rattle.grammar_laws.specs.apparatus.LeftWeights.{IsWalkable}
use Rattle.grammar_laws.proofs.walks.TotalWalk.{rule_walkable, then_walkable, or_walkable, when_walkable, maybe_walkable, many_walkable, loop_walkable}
use Rattle.syntax_meanings.specs.Meanings.{values_seen}
use Rattle.c_parser.specs.View.{form}
use Rattle.c_parser.proofs.ReaderSteps.{then_told, first_told, left_told, right_told, take_told, chosen_told, other_told, none_told, skip_told, rule_told, rule_stops}
use Rattle.c_parser.proofs.ReaderTurns.{unless_not, chain_turn, chain_stops, no_turn, one_turn, turn_stops, no_more_turns, one_again, again_stops, done_again, turn_shortens, again_shortens}
use Rattle.c_parser.proofs.ReaderMeasures.{into_rule, into_first, into_second, into_or, into_when, into_maybe, into_turn, into_again, below, in_turn}
use Rattle.c_parser.proofs.reader.+read.Goals as goal

-- ---- each form

pub read-read_rule-requires : goal.read-read_rule-requires
read-read_rule-requires t c = (below _ _ (rw c.in-Rule.is at (sym c.decreases)), tt)

pub read-read_many-requires : goal.read-read_many-requires
read-read_many-requires t c = (below _ _ (rw c.in-Many.is at (sym c.decreases)), rw c.in-Many.is at c.requires)

pub read-read_loop-requires : goal.read-read_loop-requires
read-read_loop-requires t c = (below _ _ (rw c.in-Loop.is at (sym c.decreases)), rw c.in-Loop.is at c.requires)

pub read-read-requires : goal.read-read-requires
read-read-requires t c = (into_first _ _ _ _ (rw c.in-Then.is at (sym c.decreases)), (then_walkable _ _ (rw c.in-Then.is at c.requires)).0)

pub read-read-requires-in-Then : goal.read-read-requires-in-Then
read-read-requires-in-Then t c = (into_second _ _ _ _ _ _ _ _ _ _ (rw c.in-Then.is at c.requires) c.in_ok-read-in-Then.ensures (rw c.in-Then.is at (sym c.decreases)), (then_walkable _ _ (rw c.in-Then.is at c.requires)).1)

pub read-returns-in_err-read-in-Then : goal.read-returns-in_err-read-in-Then
read-returns-in_err-read-in-Then t c = let e = err_from_is_err_and c.from_residual.result c.from_residual.ensures.1 in rw (c.in-Then.is, e.1, e.2) (first_told c.args.tokens.now (form c.in-Then.f.now) (form c.in-Then.g.now) c.args.context c.args.reader.now c.read.new.reader (values_seen c.args.out.now) (values_seen c.read.new.out) _ c.in_err-read-in-Then.ensures)

pub read-returns-in_ok-read-in-Then : goal.read-returns-in_ok-read-in-Then
read-returns-in_ok-read-in-Then t c = rw c.in-Then.is (then_told (form c.in-Then.f.now) (form c.in-Then.g.now) c.args.context c.args.reader.now c.read.new.reader c.read-in-Then.new.reader (values_seen c.args.out.now) (values_seen c.read.new.out) (values_seen c.read-in-Then.new.out) c.read-in-Then.result c.in_ok-read-in-Then.ensures c.read-in-Then.ensures)

pub read-read-requires-then-goes_left : goal.read-read-requires-then-goes_left
read-read-requires-then-goes_left t c = ((into_or _ _ _ _ (rw c.in-Or.is at (sym c.decreases))).0, (or_walkable _ _ (rw c.in-Or.is at c.requires)).0)

pub read-read-requires-else-goes_left : goal.read-read-requires-else-goes_left
read-read-requires-else-goes_left t c = ((into_or _ _ _ _ (rw c.in-Or.is at (sym c.decreases))).1, (or_walkable _ _ (rw c.in-Or.is at c.requires)).1)

pub read-returns-then-goes_left : goal.read-returns-then-goes_left
read-returns-then-goes_left t c = rw c.in-Or.is (left_told c.args.tokens.now (form c.in-Or.f.now) (form c.in-Or.g.now) c.args.context c.args.reader.now c.read-then-goes_left.new.reader (values_seen c.args.out.now) (values_seen c.read-then-goes_left.new.out) c.read-then-goes_left.result (cc) c.read-then-goes_left.ensures)

pub read-returns-else-goes_left : goal.read-returns-else-goes_left
read-returns-else-goes_left t c = rw c.in-Or.is (right_told c.args.tokens.now (form c.in-Or.f.now) (form c.in-Or.g.now) c.args.context c.args.reader.now c.read-else-goes_left.new.reader (values_seen c.args.out.now) (values_seen c.read-else-goes_left.new.out) c.read-else-goes_left.result (cc) c.read-else-goes_left.ensures)

pub read-read-requires-then-begins : goal.read-read-requires-then-begins
read-read-requires-then-begins t c = (into_maybe _ _ _ (rw c.in-Maybe.is at (sym c.decreases)), maybe_walkable _ (rw c.in-Maybe.is at c.requires))

pub read-returns-then-begins : goal.read-returns-then-begins
read-returns-then-begins t c = rw c.in-Maybe.is (take_told c.args.tokens.now (form c.in-Maybe.f.now) c.args.context c.args.reader.now c.read-then-begins.new.reader (values_seen c.args.out.now) (values_seen c.read-then-begins.new.out) c.read-then-begins.result (cc) c.read-then-begins.ensures)

pub read-returns-else-begins : goal.read-returns-else-begins
read-returns-else-begins t c = rw c.in-Maybe.is (skip_told _ _ _ _ (cc))

pub read-read-requires-then-passes : goal.read-read-requires-then-passes
read-read-requires-then-passes t c = ((into_when _ _ _ _ _ (rw c.in-When.is at (sym c.decreases))).0, (when_walkable _ _ _ (rw c.in-When.is at c.requires)).0)

pub read-read-requires-else-passes : goal.read-read-requires-else-passes
read-read-requires-else-passes t c = ((into_when _ _ _ _ _ (rw c.in-When.is at (sym c.decreases))).1, (when_walkable _ _ _ (rw c.in-When.is at c.requires)).1)

pub read-returns-then-passes : goal.read-returns-then-passes
read-returns-then-passes t c = rw c.in-When.is (chosen_told c.args.tokens.now c.in-When.test (form c.in-When.f.now) (form c.in-When.g.now) c.args.context c.args.reader.now c.read-then-passes.new.reader (values_seen c.args.out.now) (values_seen c.read-then-passes.new.out) c.read-then-passes.result (sym c.passes.ensures ∙ c.if-passes.true) c.read-then-passes.ensures)

pub read-returns-else-passes : goal.read-returns-else-passes
read-returns-else-passes t c = rw c.in-When.is (other_told c.args.tokens.now c.in-When.test (form c.in-When.f.now) (form c.in-When.g.now) c.args.context c.args.reader.now c.read-else-passes.new.reader (values_seen c.args.out.now) (values_seen c.read-else-passes.new.out) c.read-else-passes.result (sym c.passes.ensures ∙ c.if-passes.false) c.read-else-passes.ensures)

pub read-returns-in-Empty : goal.read-returns-in-Empty
read-returns-in-Empty t c = rw c.in-Empty.is (none_told _ _ _)

-- ---- a nonterminal

pub read_rule-read-requires : goal.read_rule-read-requires
read_rule-read-requires t c = (rw c.body.ensures (into_rule _ _ _ (sym c.decreases)), subst IsWalkable (sym c.body.ensures) (rule_walkable _))

pub read_rule-returns-in_err-read : goal.read_rule-returns-in_err-read
read_rule-returns-in_err-read t c = let e = err_from_is_err_and c.from_residual.result c.from_residual.ensures.1 in rw (e.1, e.2) (rule_stops c.args.tokens.now c.args.rule (form c.body.result.now) c.args.context c.inside.result c.args.reader.now.names c.args.reader.now.rest.now c.inside-reader.result c.args.reader.now c.read.new.reader (values_seen c.new-inner.result) (values_seen c.read.new.out) (values_seen c.args.out.now) (values_seen c.args.out.now) _ (record { parts = c.inside.ensures.parts; chain = c.inside.ensures.chain; builds = c.inside.ensures.builds; heights = c.inside-reader.ensures }) c.body.ensures c.in_err-read.ensures)

pub read_rule-returns : goal.read_rule-returns
read_rule-returns t c = rule_told c.args.rule (form c.body.result.now) c.args.context c.inside.result c.args.reader.now.names c.args.reader.now.rest.now c.args.reader.now.heights c.inside-reader.result c.behind_rule-reader.result c.read.new.reader _ (values_seen c.args.out.now) _ (values_seen c.new-inner.result) (values_seen c.read.new.out) (record { parts = c.inside.ensures.parts; chain = c.inside.ensures.chain; builds = c.inside.ensures.builds; heights = c.inside-reader.ensures }) c.body.ensures (ap values_seen c.new-inner.ensures) c.in_ok-read.ensures c.behind_rule-reader.ensures c.in_ok-close.ensures c.in_ok-put_node.ensures

-- ---- turns

pub read_turn-read-requires : goal.read_turn-read-requires
read_turn-read-requires t c = (in_turn _ _ (sym c.decreases), c.requires)

pub read_turn-read-requires-2 : goal.read_turn-read-requires-2
read_turn-read-requires-2 t c = (in_turn _ _ (sym c.decreases), c.requires)

pub read_turn-returns-in_err-read : goal.read_turn-returns-in_err-read
read_turn-returns-in_err-read t c = let e = err_from_is_err_and c.from_residual.result c.from_residual.ensures.1 in rw (e.1, e.2) (chain_stops c.args.tokens.now (form c.args.f.now) c.args.context c.turn-inner.result c.args.reader.now c.read-2.new.reader c.inside-reader.result (values_seen c.args.out.now) (values_seen c.read-2.new.out) _ (unless_not _ c.if-not-context.false) c.turn-inner.ensures c.inside-reader.ensures c.in_err-read.ensures)

pub read_turn-returns : goal.read_turn-returns
read_turn-returns t c = chain_turn (form c.args.f.now) c.args.context c.turn-inner.result c.args.reader.now c.read-2.new.reader c.inside-reader.result c.behind_turn-reader.result (values_seen c.args.out.now) (values_seen c.read-2.new.out) (unless_not _ c.if-not-context.false) c.turn-inner.ensures c.inside-reader.ensures c.in_ok-read.ensures c.behind_turn-reader.ensures

pub read_many-loop-alloc-init : goal.read_many-loop-alloc-init
read_many-loop-alloc-init t c = no_turn _ _ _ _

pub read_many-read_turn-requires : goal.read_many-read_turn-requires
read_many-read_turn-requires t c = (into_turn _ _ _ _ c.loop-alloc.invariant.shorter (sym c.decreases), many_walkable _ c.requires)

pub read_many-loop-alloc-smaller : goal.read_many-loop-alloc-smaller
read_many-loop-alloc-smaller t c = turn_shortens _ _ _ _ _ _ c.requires c.in_ok-read_turn.ensures

pub read_many-loop-alloc-preserved : goal.read_many-loop-alloc-preserved
read_many-loop-alloc-preserved t c = one_turn _ _ _ _ _ _ _ _ c.requires c.loop-alloc.invariant (cc) c.in_ok-read_turn.ensures

pub read_many-returns-in_err-read_turn : goal.read_many-returns-in_err-read_turn
read_many-returns-in_err-read_turn t c = let e = err_from_is_err_and c.from_residual.result c.from_residual.ensures.1 in rw (e.1, e.2) (turn_stops (form c.args.f.now) c.args.context c.args.reader.now c.loop-alloc.reader c.read_turn.new.reader (values_seen c.args.out.now) (values_seen c.loop-alloc.out) (values_seen c.read_turn.new.out) _ c.loop-alloc.invariant (cc) c.in_err-read_turn.ensures)

pub read_many-returns : goal.read_many-returns
read_many-returns t c = no_more_turns _ _ _ _ _ _ c.loop-alloc.invariant (cc)

pub read_loop-loop-alloc-init : goal.read_loop-loop-alloc-init
read_loop-loop-alloc-init t c = no_turn _ _ _ _

pub read_loop-read_turn-requires : goal.read_loop-read_turn-requires
read_loop-read_turn-requires t c = (into_again _ _ _ _ _ c.loop-alloc.invariant.shorter (sym c.decreases), loop_walkable _ _ c.requires)

pub read_loop-loop-alloc-smaller : goal.read_loop-loop-alloc-smaller
read_loop-loop-alloc-smaller t c = again_shortens _ _ _ _ _ _ _ c.requires c.in_ok-read_turn.ensures

pub read_loop-loop-alloc-preserved : goal.read_loop-loop-alloc-preserved
read_loop-loop-alloc-preserved t c = one_again _ _ _ _ _ _ _ _ _ c.requires c.loop-alloc.invariant (cc) c.in_ok-read_turn.ensures

pub read_loop-returns-in_err-read_turn : goal.read_loop-returns-in_err-read_turn
read_loop-returns-in_err-read_turn t c = let e = err_from_is_err_and c.from_residual.result c.from_residual.ensures.1 in rw (e.1, e.2) (again_stops c.args.test (form c.args.f.now) c.args.context c.args.reader.now c.loop-alloc.reader c.read_turn.new.reader (values_seen c.args.out.now) (values_seen c.loop-alloc.out) (values_seen c.read_turn.new.out) _ c.loop-alloc.invariant (cc) c.in_err-read_turn.ensures)

pub read_loop-returns : goal.read_loop-returns
read_loop-returns t c = done_again _ _ _ _ _ _ _ c.loop-alloc.invariant (cc)
