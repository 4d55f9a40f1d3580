use Rattle.std.proofs.Common.{◌≡◌, ◌++◌, drop}
use Rattle.model_c89.specs.SpellingParts89.{objects_text}
use Rattle.c89_writer.proofs.declarations.push_objects.Given as goal

abbrev pub invariant-loop-object : goal.invariant-loop-object
invariant-loop-object l = l.out ++ objects_text l.level (drop l.object-index l.objects) ≡ l.initial.out ++ objects_text l.level l.objects
