use Rattle.cake_cli.specs.WordsRead.{plan_as}
use Rattle.cake_cli.proofs.FileReports.{prepared_is_reported, stop_is_reported}
use Rattle.cake_cli.proofs.command.report.Goals as goal

pub returns-in-Ok-clause-report : goal.returns-in-Ok-clause-report
returns-in-Ok-clause-report g c =
    prepared_is_reported _ (plan_as c.args.plan.now c.args.name.now) c.in-Ok.prep c.preprocess.new.log (g.F.Files.shows c.args.files.now) (g.F.Files.shows c.preprocess.new.files)
    c.in-Ok.ensures.due c.in-Ok.ensures.answered c.report_prepared.ensures

pub returns-clause-report : goal.returns-clause-report
returns-clause-report g c =
    stop_is_reported _ (plan_as c.args.plan.now c.args.name.now) c.in-Err.error c.preprocess.new.log (g.F.Files.shows c.args.files.now) (g.F.Files.shows c.preprocess.new.files)
    c.in-Err.ensures.due c.in-Err.ensures.failed c.in-Err.ensures.answered c.report_stop.ensures
