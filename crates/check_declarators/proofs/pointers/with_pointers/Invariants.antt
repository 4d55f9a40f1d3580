use Rattle.std.proofs.Common.{◌≡◌, drop}
use Rattle.model_checking.specs.Derivations as m
use Rattle.check_declarators.specs.Steps.{derivations_of}
use Rattle.check_declarators.proofs.pointers.with_pointers.Given as goal

abbrev pub invariant-loop-at : goal.invariant-loop-at
invariant-loop-at l = derivations_of l.steps ≡ m.with_pointers (drop l.at l.pointers) (derivations_of l.fn.steps)
