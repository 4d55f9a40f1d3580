use Rattle.std.proofs.Common.{◌≡◌, drop}
use Rattle.model_checking.specs.DeclaratorTypes as m
use Rattle.check_tags.proofs.parameters.first_void.Given as goal

abbrev pub invariant-loop-entry : goal.invariant-loop-entry
invariant-loop-entry l = m.first_void (drop l.entry-index l.entries) ≡ m.first_void l.entries
