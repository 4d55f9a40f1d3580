use Rattle.std.proofs.Common.{◌≡◌, ◌++◌, drop}
use Rattle.model_preprocessing.specs.PreprocessedUnit.{command_lines}
use Rattle.pp_directives.proofs.unit.command_lines.Given as goal

abbrev pub invariant-loop-at : goal.invariant-loop-at
invariant-loop-at l = l.text ++ command_lines (drop l.at l.options.defines) ≡ command_lines l.options.defines
