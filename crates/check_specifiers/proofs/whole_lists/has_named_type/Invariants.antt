use Rattle.std.proofs.Common.{◌≡◌, drop}
use Rattle.std.specs.List.{list_any}
use Rattle.c_tree.specs.SyntaxViews.{specs_items}
use Rattle.model_checking.specs.Words as w
use Rattle.check_specifiers.proofs.whole_lists.has_named_type.Given as goal

abbrev pub invariant-loop-spec : goal.invariant-loop-spec
invariant-loop-spec l = list_any w.is_named_type (w.words_of (specs_items (drop l.spec-index l.specs))) ≡ list_any w.is_named_type (w.words_of (specs_items l.specs))
