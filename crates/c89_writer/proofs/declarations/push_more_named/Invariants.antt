use Rattle.std.proofs.Common.{◌≡◌, ◌++◌, drop, false}
use Rattle.model_c89.specs.Spelling89.{more_named_text}
use Rattle.c89_writer.proofs.declarations.push_more_named.Given as goal

abbrev pub invariant-loop-parameter : goal.invariant-loop-parameter
invariant-loop-parameter l = l.out ++ more_named_text (drop l.parameter-index l.parameters) false ≡ l.initial.out ++ more_named_text l.parameters false
