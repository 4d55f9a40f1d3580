use Rattle.cake_cli.proofs.Complete.{one_unit}
use Rattle.cake_cli.proofs.laws.one_unit.Goals as goal

pub returns : goal.returns
returns c = one_unit
