use Rattle.std.proofs.Common.{◌∙◌, ap, sym}
use Rattle.cake_cli.specs.Views.{reading_of}
use Rattle.cake_cli.proofs.MadeReports.{stop_tree, unit_tree}
use Rattle.cake_cli.proofs.report.report_tree.Goals as goal

pub returns-in-Stops : goal.returns-in-Stops
returns-in-Stops c = stop_tree _ c.args.mode c.args.log.now c.args.tokens.now c.args.end c.in-Stops.place c.requires (sym (ap reading_of c.in-Stops.is) ∙ c.in_ok-place.ensures) c.unbuilt.ensures

pub returns-in_ok-out-in-Reads : goal.returns-in_ok-out-in-Reads
returns-in_ok-out-in-Reads c =
    unit_tree _ c.args.mode c.args.log.now c.args.tokens.now c.args.end c.in-Reads.value c.in_ok-out-in-Reads.out c.requires (sym (ap reading_of c.in-Reads.is) ∙ c.in_ok-place.ensures)
    c.in_ok-out-in-Reads.ensures c.written.ensures.status c.written.ensures.out c.written.ensures.err
