use Rattle.std.proofs.Common.{◌≡◌, drop}
use Rattle.std.specs.List.{list_any}
use Rattle.c_tree.specs.SyntaxViews.{specs_items}
use Rattle.model_checking.specs.Words as m
use Rattle.check_specifiers.proofs.words.has_auto_word.Given as goal

abbrev pub invariant-loop-spec : goal.invariant-loop-spec
invariant-loop-spec l = list_any m.is_auto_word (m.words_of (specs_items (drop l.spec-index l.specs))) ≡ list_any m.is_auto_word (m.words_of (specs_items l.specs))
