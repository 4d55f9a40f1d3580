use Rattle.std.proofs.Common.{◌≡◌, [], drop}
use Rattle.model_macros.specs.declared.macros.Expected.TheVariants.{First}
use Rattle.model_macros.specs.MacroDefinitions.{parameters}
use Rattle.pp_definitions.specs.Definitions.{after_names}
use Rattle.pp_definitions.proofs.heading.read_parameters.Given as goal

abbrev pub invariant-loop-at : goal.invariant-loop-at
invariant-loop-at l = after_names l.names (parameters l.expected (drop l.at l.line)) ≡ after_names [] (parameters First (drop l.from l.line))
