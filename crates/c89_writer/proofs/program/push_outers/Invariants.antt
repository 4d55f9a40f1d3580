use Rattle.std.proofs.Common.{◌≡◌, ◌++◌, drop}
use Rattle.model_c89.specs.Spelling89.{outers_text}
use Rattle.c89_writer.proofs.program.push_outers.Given as goal

abbrev pub invariant-loop-outer : goal.invariant-loop-outer
invariant-loop-outer l = l.out ++ outers_text (drop l.outer-index l.outers) ≡ l.initial.out ++ outers_text l.outers
