-- `static_assert` (ISO/IEC 9899:2024, 6.7.12): the value of its constant expression isn't zero.
use Rattle.std.specs.Prelude.{ℤ, Option}
use Rattle.cake_base.specs.declared.places.Place.{Place}
use Rattle.cake_base.specs.declared.rules.Fault.{Fault}
use Rattle.model_core.specs.SameTypes.{is_zero}
use Rattle.model_checking.specs.FaultsBeside.{fault_if}

-- C36 at the word, where the condition has a value
abbrev pub assertion_fault : (place : Place) → (value : ℤ) → Option Fault
assertion_fault place value = fault_if (is_zero value) place 36
