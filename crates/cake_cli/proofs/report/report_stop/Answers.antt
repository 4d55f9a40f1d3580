use Rattle.std.proofs.Common.{ap}
use Rattle.model_preprocessing.specs.Processes.{broken, passed, unread}
use Rattle.cake_cli.specs.Reports.{stop_of}
use Rattle.cake_cli.proofs.MadeReports.{stop_report}
use Rattle.cake_cli.proofs.report.report_stop.Goals as goal

pub returns-in-Fault : goal.returns-in-Fault
returns-in-Fault c = stop_report _ c.args.error c.args.log.now (broken c.in-Fault.fault) (ap stop_of c.in-Fault.is) c.refused.ensures

pub returns-in-Limit : goal.returns-in-Limit
returns-in-Limit c = stop_report _ c.args.error c.args.log.now (passed c.in-Limit.hit) (ap stop_of c.in-Limit.is) c.limited.ensures

pub returns-in-Read : goal.returns-in-Read
returns-in-Read c = stop_report _ c.args.error c.args.log.now (unread c.in-Read.file c.in-Read.field-1) (ap stop_of c.in-Read.is) c.unreadable.ensures
