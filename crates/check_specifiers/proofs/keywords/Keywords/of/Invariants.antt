use Rattle.std.proofs.Common.{◌≡◌, ◌≤◌, drop, length}
use Rattle.c_tree.specs.SyntaxViews.{specs_items}
use Rattle.model_checking.specs.Words as w
use Rattle.check_specifiers.specs.KeywordCounts as k
use Rattle.check_specifiers.proofs.keywords.Keywords.of.Given as goal

abbrev pub invariant-loop-at : goal.invariant-loop-at
invariant-loop-at l = (l.at ≤ length l.specs) × (l.keywords ≡ k.keywords_in (w.type_words (w.words_of (specs_items (drop l.at l.specs)))))

abbrev pub decreases-loop-at : goal.decreases-loop-at
decreases-loop-at l = l.at
