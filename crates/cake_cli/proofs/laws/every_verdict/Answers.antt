use Rattle.cake_cli.proofs.DueReports.{every_verdict}
use Rattle.cake_cli.proofs.laws.every_verdict.Goals as goal

pub returns : goal.returns
returns c = every_verdict
