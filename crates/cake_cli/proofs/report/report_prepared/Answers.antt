use Rattle.std.proofs.Common.{◌∙◌, ap}
use Rattle.cake_cli.specs.ExpandedText.{expanded_text}
use Rattle.pp_directives.specs.Promise.{with_log}
use Rattle.cake_cli.proofs.MadeReports.{expanded_done}
use Rattle.cake_cli.proofs.report.report_prepared.Goals as goal

pub returns-in_ok-out-in-Expand : goal.returns-in_ok-out-in-Expand
returns-in_ok-out-in-Expand c =
    expanded_done _ c.args.mode (with_log c.args.log.now c.args.prep.now) c.in_ok-out-in-Expand.out c.in-Expand.is
    (c.in_ok-out-in-Expand.ensures ∙ ap expanded_text c.tokens.ensures) c.written.ensures.status c.written.ensures.out c.written.ensures.err
