use Rattle.std.proofs.Common.{◌≡◌, ◌++◌, drop}
use Rattle.model_c89.specs.Spelling89.{structures_text}
use Rattle.c89_writer.proofs.program.push_structures.Given as goal

abbrev pub invariant-loop-structure : goal.invariant-loop-structure
invariant-loop-structure l = l.out ++ structures_text (drop l.structure-index l.structures) ≡ l.initial.out ++ structures_text l.structures
