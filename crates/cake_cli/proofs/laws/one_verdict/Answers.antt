use Rattle.cake_cli.proofs.UniqueVerdict.{one_verdict}
use Rattle.cake_cli.proofs.laws.one_verdict.Goals as goal

pub returns : goal.returns
returns c = one_verdict
