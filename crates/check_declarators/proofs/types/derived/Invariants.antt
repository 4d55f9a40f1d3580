use Rattle.std.proofs.Common.{◌≡◌, drop}
use Rattle.std.specs.Option.{option_copied}
use Rattle.model_checking.specs.DeclaratorTypes as m
use Rattle.check_specifiers.specs.Typings.{typing_of}
use Rattle.check_declarators.specs.Steps.{derivations_of}
use Rattle.check_declarators.proofs.types.derived.Given as goal

abbrev pub invariant-loop-at : goal.invariant-loop-at
invariant-loop-at l = typing_of l.typing ≡ m.derived l.structs l.first (option_copied l.base) (derivations_of (drop l.at l.steps))
