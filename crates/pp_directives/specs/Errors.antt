-- The errors of replacement among those of preprocessing.
use Rattle.pp_definitions.specs.declared.errors.MacroError.{MacroError}
use Rattle.pp_definitions.specs.declared.errors.MacroError.TheVariants as macro_error
use Rattle.pp_directives.specs.declared.errors.PrepError.{PrepError}
use Rattle.pp_directives.specs.declared.errors.PrepError.TheVariants as prep_error

abbrev pub of_macro : MacroError → PrepError
of_macro (macro_error.Fault fault) = prep_error.Fault fault
of_macro (macro_error.Limit hit) = prep_error.Limit hit
of_macro macro_error.NoMemory = prep_error.NoMemory
