use Rattle.cake_cli.proofs.CarriedUnits.{carries as law}
use Rattle.cake_cli.proofs.laws.answer_carries_the_unit.Goals as goal

pub returns : goal.returns
returns c = law
