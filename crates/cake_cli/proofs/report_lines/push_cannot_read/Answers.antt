use Rattle.cake_cli.proofs.Pushes.{push_parts}
use Rattle.cake_cli.proofs.report_lines.push_cannot_read.Goals as goal

pub returns : goal.returns
returns c = push_parts _ _ _ _ _ _ _ _ c.in_ok-push.ensures.ok _ c.in_ok-push-2.ensures.ok c.as_bytes.ensures.value c.push-3.ensures.ok
