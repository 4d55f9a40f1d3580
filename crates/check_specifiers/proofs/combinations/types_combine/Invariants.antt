use Rattle.std.proofs.Common.{◌≡◌, [], drop, take}
use Rattle.c_tree.specs.SyntaxViews.{specs_items}
use Rattle.model_checking.specs.Words as w
use Rattle.model_checking.specs.SpecifierWords as m
use Rattle.check_specifiers.proofs.combinations.types_combine.Given as goal

abbrev pub invariant-loop-at : goal.invariant-loop-at
invariant-loop-at l =
    m.types_combine (w.words_of (specs_items (take l.at l.specs))) (w.words_of (specs_items (drop l.at l.specs))) ≡ m.types_combine [] (w.words_of (specs_items l.specs))
