use Rattle.std.proofs.Common.{◌≡◌, drop}
use Rattle.model_checking.specs.DeclaratorTypes as m
use Rattle.check_declarators.specs.Steps.{derivations_of}
use Rattle.check_declarators.proofs.parameters.void_faults.Given as goal

abbrev pub invariant-loop-at : goal.invariant-loop-at
invariant-loop-at l = l.fault ≡ m.void_faults (derivations_of (drop l.at l.steps))
