use Rattle.std.proofs.Common.{◌≡◌, ◌++◌, drop}
use Rattle.c_tree.specs.SyntaxViews.{specs_items}
use Rattle.model_checking.specs.Words as w
use Rattle.check_specifiers.proofs.whole_lists.qualifiers_of.Given as goal

abbrev pub invariant-loop-spec : goal.invariant-loop-spec
invariant-loop-spec l =
    l.qualifiers.items ++ w.qualifiers_of (w.words_of (specs_items (drop l.spec-index l.specs))) ≡ w.qualifiers_of (w.words_of (specs_items l.specs))
