use Rattle.std.proofs.Common.{string_bytes, ◌+◌}
use Rattle.cake_cli.specs.WordsRead.{met_of}
use Rattle.cake_cli.proofs.PlanLaws.{rest_is, leads_bad, leads_good}
use Rattle.cake_cli.proofs.words.test_words.Goals as goal

pub returns-in-None-clause-bad : goal.returns-in-None-clause-bad
returns-in-None-clause-bad c =
    leads_bad (met_of c.loop-i.met) (c.loop-i.i + 1) c.as_str.result.now _ _ _
    (rest_is string_bytes c.args.words.now c.loop-i.i c.index-words-i.result c.as_str.result.now c.loop-i-test.true c.index-words-i.is c.as_str.ensures.value)
    (c.in-None.ensures) c.loop-i.invariant

pub loop-i-preserved : goal.loop-i-preserved
loop-i-preserved c =
    leads_good (met_of c.loop-i.met) (met_of c.step.new.self) _ (c.loop-i.i + 1) c.as_str.result.now _ _ _
    (rest_is string_bytes c.args.words.now c.loop-i.i c.index-words-i.result c.as_str.result.now c.loop-i-test.true c.index-words-i.is c.as_str.ensures.value)
    (c.in-Some.ensures) c.loop-i.invariant
