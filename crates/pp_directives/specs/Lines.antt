-- The lines of a file that has a number.
use Rattle.std.specs.Prelude.{◌≡◌, List, Option, Some, None, Result, Ok, Err}
use Rattle.std.specs.Option.{option_map}
use Rattle.cake_base.specs.declared.rules.Fault.{Fault}
use Rattle.model_preprocessing.specs.Directives.{Part}
use Rattle.model_preprocessing.specs.Sources.{State, here}
use Rattle.pp_directives.specs.declared.errors.PrepError.{PrepError}
use Rattle.pp_directives.specs.declared.errors.PrepError.TheVariants as prep_error

-- the lines that were found, if any
abbrev pub Finds : Option (Result (List Part) Fault) → Option (Result (List Part) Fault) → Type 0
Finds there None = there ≡ None
Finds there (Some lines) = (parts : List Part) × (lines ≡ Ok parts) × (there ≡ Some (Ok parts))

-- the error is L01 of the file, at its place among the tokens so far
abbrev pub IsFault : State → Option (Result (List Part) Fault) → PrepError → Type 0
IsFault s there (prep_error.Fault fault) = (old : Fault) × (there ≡ Some (Err old)) × (fault ≡ record old { place = here s old.place })
IsFault s there (prep_error.Limit hit) = ⊥
IsFault s there (prep_error.Read file cause) = ⊥
IsFault s there prep_error.NoMemory = Unit {0}
