use Rattle.first_broken_laws.proofs.AssignLaws.{assign_first}
use Rattle.first_broken_laws.proofs.conversions.assign_is_first.Goals as goal

pub returns : goal.returns
returns c = assign_first
