use Rattle.cake_cli.proofs.CarriedUnits.{by_findings as law}
use Rattle.cake_cli.proofs.laws.refused_by_findings.Goals as goal

pub returns : goal.returns
returns c = law
