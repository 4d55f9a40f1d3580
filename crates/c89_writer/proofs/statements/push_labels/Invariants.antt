use Rattle.std.proofs.Common.{◌≡◌, ◌++◌, drop}
use Rattle.model_c89.specs.SpellingParts89.{labels_text}
use Rattle.c89_writer.proofs.statements.push_labels.Given as goal

abbrev pub invariant-loop-label : goal.invariant-loop-label
invariant-loop-label l = l.out ++ labels_text l.level (drop l.label-index l.labels) ≡ l.initial.out ++ labels_text l.level l.labels
