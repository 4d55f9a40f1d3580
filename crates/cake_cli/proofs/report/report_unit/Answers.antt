use Rattle.std.proofs.Common.{◌∙◌, ap, sym}
use Rattle.model_tokens.specs.CTokens.{c_tokens_of}
use Rattle.pp_directives.specs.Promise.{with_log}
use Rattle.cake_cli.proofs.MadeReports.{refused_unit}
use Rattle.cake_cli.proofs.report.report_unit.Goals as goal

pub returns-in-Err-Fault : goal.returns-in-Err-Fault
returns-in-Err-Fault c =
    refused_unit _ c.args.mode c.args.log.now (with_log c.args.log.now c.args.prep.now) c.in-Err-Fault.fault
    (ap c_tokens_of (sym c.tokens.ensures) ∙ rw c.in-Err-Fault.field-0-is at c.in-Err-Fault.ensures) (rw c.in-Err-Fault.field-0-is at c.refused.ensures)
