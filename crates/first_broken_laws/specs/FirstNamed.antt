-- What it is that elaboration names the first of the constraints that are broken: where it gives a fault, that is the
-- first of the pairs, and where it gives a value there is no pair.
use Rattle.std.specs.Prelude.{◌≡◌, ◌<◌, true, Option, Some, None, Result, Ok, Err}
use Rattle.cake_base.specs.declared.places.Place.{Place}
use Rattle.cake_base.specs.declared.rules.Fault.{Fault}
use Rattle.model_types.specs.Types.{form_of_type}
use Rattle.model_core.specs.TypedParts.{is_function, is_function_pointer}
use Rattle.model_core.specs.TypedExpr.{form_of}
use Rattle.model_checking.specs.Meanings.{Meaning, a_place, a_value, a_function, a_target}
use Rattle.model_constraints.specs.Pairs.{Pairs, First, IsUnbroken}

-- of a fault that may be there
abbrev pub Names : Pairs → Option Fault → Type 0
Names P None = IsUnbroken P
Names P (Some fault) = First P fault

-- of a value, or a fault
abbrev pub Answers : {A : Type 0} → Pairs → Result A Fault → Type 0
Answers P (Ok x) = IsUnbroken P
Answers P (Err fault) = First P fault

-- a token stands before another
abbrev pub Precedes : Place → Place → Type 0
Precedes a b = a.order < b.order

-- what is called a function is one
abbrev pub Designates : Meaning → Type 0
Designates (a_place object known) = true ≡ true
Designates (a_value value) = true ≡ true
Designates (a_function id type by_name mark) = is_function (form_of_type type) ≡ true
Designates (a_target pointer) = is_function_pointer (form_of pointer) ≡ true
