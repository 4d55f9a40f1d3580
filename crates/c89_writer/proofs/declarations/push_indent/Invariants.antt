use Rattle.std.proofs.Common.{◌≡◌, ◌++◌, ◌-◌}
use Rattle.model_c89.specs.SpellingParts89.{indent}
use Rattle.c89_writer.proofs.declarations.push_indent.Given as goal

abbrev pub invariant-loop-done : goal.invariant-loop-done
invariant-loop-done l = l.out ++ indent (l.level - l.done) ≡ l.initial.out ++ indent l.level
