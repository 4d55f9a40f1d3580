use Rattle.first_broken_laws.proofs.AssignLaws.{assign_by_first}
use Rattle.first_broken_laws.proofs.conversions.assign_by_is_first.Goals as goal

pub returns : goal.returns
returns c = assign_by_first
