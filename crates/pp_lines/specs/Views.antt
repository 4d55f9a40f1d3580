-- How contracts see what the code holds.
use Rattle.std.specs.Prelude.{List, Option, Some, None, Result, Ok, Err}
use Rattle.cake_base.specs.declared.rules.Fault.{Fault}
use Rattle.model_preprocessing.specs.Directives.{Part}

abbrev pub lines_view : List Part → Option Fault → Result (List Part) Fault
lines_view parts None = Ok parts
lines_view parts (Some fault) = Err fault
