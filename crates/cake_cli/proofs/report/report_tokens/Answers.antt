use Rattle.cake_cli.proofs.MadeReports.{fault_tokens, limit_tokens}
use Rattle.cake_cli.proofs.UnitForms.{parsed_has_form}
use Rattle.cake_cli.proofs.report.report_tokens.Goals as goal

pub report_tree-requires : goal.report_tree-requires
report_tree-requires c = parsed_has_form _ _ c.in-Ok.ensures

pub returns-in-Err-Fault : goal.returns-in-Err-Fault
returns-in-Err-Fault c =
    fault_tokens _ c.args.mode c.args.log.now c.args.tokens.now c.args.end c.in-Err-Fault.fault
    (rw c.in-Err-Fault.field-0-is at c.in-Err-Fault.ensures) (rw c.in-Err-Fault.field-0-is at c.refused.ensures)

pub returns-in-Err-Limit : goal.returns-in-Err-Limit
returns-in-Err-Limit c =
    limit_tokens _ c.args.mode c.args.log.now c.args.tokens.now c.args.end c.in-Err-Limit.hit
    (rw c.in-Err-Limit.field-0-is at c.in-Err-Limit.ensures) (rw c.in-Err-Limit.field-0-is at c.limited.ensures)
