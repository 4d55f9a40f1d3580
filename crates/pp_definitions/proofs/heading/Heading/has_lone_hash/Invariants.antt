use Rattle.std.proofs.Common.{◌≡◌, drop}
use Rattle.model_macros.specs.MacroDefinitions.{signature, lone_hash}
use Rattle.pp_definitions.proofs.heading.Heading.has_lone_hash.Given as goal

abbrev pub invariant-loop-at : goal.invariant-loop-at
invariant-loop-at l = lone_hash (signature l.self) (drop l.at l.line) ≡ lone_hash (signature l.self) (drop l.from l.line)
