use Rattle.std.proofs.Common.{◌≡◌, drop}
use Rattle.c_tree.specs.SyntaxViews.{specs_items}
use Rattle.model_checking.specs.Words as m
use Rattle.check_specifiers.proofs.words.has_type_specifier.Given as goal

abbrev pub invariant-loop-spec : goal.invariant-loop-spec
invariant-loop-spec l = m.has_type_specifier (m.words_of (specs_items (drop l.spec-index l.specs))) ≡ m.has_type_specifier (m.words_of (specs_items l.specs))
