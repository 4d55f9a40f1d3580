use Rattle.check_types.proofs.CompositeLaws.{composite_law}
use Rattle.check_types.proofs.laws.composite_stands_for_both.Goals as goal

pub returns : goal.returns
returns c = composite_law
