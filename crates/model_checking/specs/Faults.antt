-- Constraints as tests: where one doesn't hold, its rule is broken at a place.
use Rattle.std.specs.Prelude.{ℕ, Bool, not, Option, Some, None}
use Rattle.cake_base.specs.declared.places.Place.{Place}
use Rattle.cake_base.specs.declared.rules.Fault.{Fault}
use Rattle.model_checking.specs.FaultsBeside.{fault_if}

-- a rule that is broken where this doesn't hold
abbrev pub wants : Bool → Place → (rule : ℕ) → Option Fault
wants holds place rule = fault_if (not holds) place rule

-- of two faults, where there are any, the one that is looked for first; by place it is `first_of_faults`
abbrev pub or_fault : Option Fault → Option Fault → Option Fault
or_fault (Some fault) behind = Some fault
or_fault None behind = behind
