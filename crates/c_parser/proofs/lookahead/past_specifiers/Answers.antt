use Rattle.std.proofs.Common.{sym, ◌∙◌, arith}
use Rattle.std.proofs.lemmas.Grind.{common_steps}
use Rattle.c_parser.proofs.TestSteps.{specifiers_on}
use Rattle.c_parser.proofs.lookahead.past_specifiers.Goals as goal

pub loop-first-preserved : goal.loop-first-preserved
loop-first-preserved c = (sym (specifiers_on c.loop-first.place _ c.args.names.now c.loop-first.rest.now c.in-Some.first c.in-Some.more.now c.in-Some.ensures (cc)) ∙ c.loop-first.invariant.0, grind (arith, common_steps))
