-- Faults of operations on constants, and the causes that they stand for.
use Rattle.std.specs.Prelude.{Result, Ok, Err}
use Rattle.model_types.specs.declared.outcomes.Cause.{Cause}
use Rattle.model_types.specs.declared.outcomes.Cause.TheVariants as cause
use Rattle.c_types.specs.declared.operations.OpFault.{OpFault}
use Rattle.c_types.specs.declared.operations.OpFault.TheVariants.{Overflow, ZeroDivisor, BadShift}

-- the cause of undefined behaviour that a fault stands for
abbrev pub cause_of : OpFault → Cause
cause_of Overflow = cause.Overflow
cause_of ZeroDivisor = cause.ZeroDivisor
cause_of BadShift = cause.BadShift

-- a result with its fault as a cause
abbrev pub caused : {A : Type 0} → Result A OpFault → Result A Cause
caused (Ok value) = Ok value
caused (Err fault) = Err (cause_of fault)
