-- Values of parts of a condition, which lie in the range of their type.
use Rattle.std.specs.Prelude.{Bool, IsTrue, ℤ, Option, Some, None}
use Rattle.model_types.specs.Operations.{fits}
use Rattle.model_conditions.specs.ConditionValues.{wide}

-- a value, if there is one, fits the type of 64 bits
abbrev pub Fitting : (unsigned : Bool) → Option ℤ → Type 0
Fitting unsigned None = Unit {0}
Fitting unsigned (Some value) = IsTrue (fits (wide unsigned) value)
