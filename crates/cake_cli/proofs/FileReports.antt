-- The report of a plan, by what preprocessing answered.
use Rattle.std.proofs.Common.{Result, Ok, Err, IfOk}
use Rattle.cake_base.specs.Outside.{FilesView, SinkView}
use Rattle.model_preprocessing.specs.PreprocessedUnit.{unit}
use Rattle.model_preprocessing.specs.Processes.{Log}
use Rattle.cake_cli.specs.Words.{Plan}
use Rattle.pp_directives.specs.declared.errors.PrepError.{PrepError}
use Rattle.pp_directives.specs.Outcomes.{Runs}
use Rattle.pp_directives.specs.Promise as pp
use Rattle.cake_cli.specs.declared.report.Report.{Report}
use Rattle.cake_cli.specs.Call.{call_of}
use Rattle.cake_cli.specs.Reports.{ReportsDone, ReportsStop, ReportsPlan}
use Rattle.cake_cli.proofs.DueReports.{prepared_reported, stop_reported}

abbrev pub Reported : Plan → FilesView → FilesView → Report → Type 0
Reported plan files files' r = (out out' err err' : SinkView) → ReportsPlan plan (call_of files files' out out' err err') r

pub prepared_is_reported : {E : Type 0} (result : Result Report E) (plan : Plan) (prep : pp.Prep) (log : Log) (files files' : FilesView) → pp.IsDue files.held plan.options plan.file (Ok prep) log → Runs files files' (unit plan.options plan.file) (Ok prep) (pp.with_log log) log → IfOk result (ReportsDone plan.mode (Ok (pp.with_log log prep))) → IfOk result (Reported plan files files')
prepared_is_reported (Ok r) plan prep log files files' due answered report = λ out out' err err'. prepared_reported plan prep log (call_of files files' out out' err err') r due answered report
prepared_is_reported (Err e) plan prep log files files' due answered report = tt

pub stop_is_reported : {E : Type 0} (result : Result Report E) (plan : Plan) (error : PrepError) (log : Log) (files files' : FilesView) → pp.IsDue files.held plan.options plan.file (Err error) log → pp.FailedRead files files' plan.options plan.file (Err error) log → pp.IsAnswered files files' plan.options plan.file (Err error) log → IfOk result (ReportsStop error log) → IfOk result (Reported plan files files')
stop_is_reported (Ok r) plan error log files files' due failed answered report = λ out out' err err'. stop_reported plan error log (call_of files files' out out' err err') r due failed answered report
stop_is_reported (Err e) plan error log files files' due failed answered report = tt
