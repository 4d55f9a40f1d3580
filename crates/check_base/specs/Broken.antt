-- What a refusal of checking says, where a definition gives a result or its first fault.
use Rattle.std.specs.Prelude.{◌≡◌, Option, Some, None, Result, Err}
use Rattle.cake_base.specs.declared.rules.Fault.{Fault}
use Rattle.model_checking.specs.FaultOrder.{first_fault}
use Rattle.check_base.specs.declared.errors.CheckError.{CheckError}
use Rattle.check_base.specs.declared.errors.CheckError.TheVariants as check_error

-- the fault has a property; memory may be wanting at any time
abbrev pub Due : CheckError → (Fault → Type 0) → Type 0
Due (check_error.Fault fault) P = P fault
Due (check_error.Limit hit) P = ⊥
Due (check_error.NotBuilt place) P = ⊥
Due check_error.NoMemory P = Unit {0}

-- the fault is the one that is due
abbrev pub Broken : {A : Type 0} → CheckError → Result A Fault → Type 0
Broken e due = Due e (λ fault. due ≡ Err fault)

-- of the fault, and one that is there besides, the first
abbrev pub beside : Option Fault → CheckError → CheckError
beside None e = e
beside (Some other) (check_error.Fault fault) = check_error.Fault (first_fault other fault)
beside (Some other) (check_error.Limit hit) = check_error.Limit hit
beside (Some other) (check_error.NotBuilt place) = check_error.NotBuilt place
beside (Some other) check_error.NoMemory = check_error.NoMemory
