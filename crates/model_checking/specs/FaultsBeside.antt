-- Faults that are there whether or not other parts are faulty: of all of them the first is told.
use Rattle.std.specs.Prelude.{ℕ, Bool, if◌then◌else◌, Option, Some, None, Result, Ok, Err}
use Rattle.cake_base.specs.declared.places.Place.{Place}
use Rattle.cake_base.specs.declared.rules.Fault.{Fault}
use Rattle.model_scopes.specs.DeclarationRules.{constraint_at}
use Rattle.model_checking.specs.FaultOrder.{first_fault}

abbrev pub first_of_faults : Option Fault → Option Fault → Option Fault
first_of_faults None g = g
first_of_faults (Some f) None = Some f
first_of_faults (Some f) (Some g) = Some (first_fault f g)

-- a rule that is broken where this holds
abbrev pub fault_if : Bool → Place → (rule : ℕ) → Option Fault
fault_if broken place rule = if broken then Some (constraint_at place rule) else None

-- a rule that is broken where there is a place for it
abbrev pub fault_at : Option Place → (rule : ℕ) → Option Fault
fault_at None rule = None
fault_at (Some place) rule = Some (constraint_at place rule)

-- what a part gives, beside a fault that is there whatever the part is
abbrev pub with_fault : {A : Type 0} → Option Fault → Result A Fault → Result A Fault
with_fault None part = part
with_fault (Some f) (Ok x) = Err f
with_fault (Some f) (Err g) = Err (first_fault f g)
