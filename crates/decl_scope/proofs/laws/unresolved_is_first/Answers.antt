use Rattle.decl_scope.proofs.UseLaws.{unresolved_is_first as first, unresolved_is_use}
use Rattle.decl_scope.proofs.laws.unresolved_is_first.Goals as goal

pub returns-clause-first : goal.returns-clause-first
returns-clause-first c = first

pub returns-clause-one : goal.returns-clause-one
returns-clause-one c = unresolved_is_use
