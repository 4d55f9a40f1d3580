use Rattle.std.proofs.Common.{◌≡◌, drop}
use Rattle.c_tree.specs.SyntaxViews.{specs_items}
use Rattle.model_checking.specs.Words as w
use Rattle.model_checking.specs.DeclarationSpecifiers as m
use Rattle.check_specifiers.proofs.declaration_lists.other_place.Given as goal

abbrev pub invariant-loop-spec : goal.invariant-loop-spec
invariant-loop-spec l = w.place_of_first m.is_other_word (w.words_of (specs_items (drop l.spec-index l.specs))) ≡ w.place_of_first m.is_other_word (w.words_of (specs_items l.specs))
