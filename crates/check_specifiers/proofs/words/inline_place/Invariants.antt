use Rattle.std.proofs.Common.{◌≡◌, drop}
use Rattle.c_tree.specs.SyntaxViews.{specs_items}
use Rattle.model_checking.specs.Words as m
use Rattle.check_specifiers.proofs.words.inline_place.Given as goal

abbrev pub invariant-loop-spec : goal.invariant-loop-spec
invariant-loop-spec l = m.place_of_first m.is_inline_word (m.words_of (specs_items (drop l.spec-index l.specs))) ≡ m.place_of_first m.is_inline_word (m.words_of (specs_items l.specs))
