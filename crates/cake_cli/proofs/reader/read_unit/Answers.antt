use Rattle.std.proofs.Common.{◌∙◌, sym, ap}
use Rattle.cake_cli.specs.Views.{stage_of, stage_option}
use Rattle.cake_cli.proofs.ReaderLaws.{no_stage_stops, stage_goes_on}
use Rattle.cake_cli.proofs.reader.read_unit.Goals as goal

pub returns-in-None : goal.returns-in-None
returns-in-None c =
    no_stage_stops (stage_of c.loop-at.stage) c.loop-at.at c.args.tokens.now c.args.end c.in-Some.token.now _ (sym c.in-Some.ensures)
    (sym c.in_ok-read_token.ensures ∙ ap stage_option c.in-None.is) c.loop-at.invariant

pub loop-at-preserved : goal.loop-at-preserved
loop-at-preserved c =
    stage_goes_on (stage_of c.loop-at.stage) (stage_of c.in-Some-2.next) c.loop-at.at c.args.tokens.now c.args.end c.in-Some.token.now _ (sym c.in-Some.ensures)
    (sym c.in_ok-read_token.ensures ∙ ap stage_option c.in-Some-2.is) c.loop-at.invariant
