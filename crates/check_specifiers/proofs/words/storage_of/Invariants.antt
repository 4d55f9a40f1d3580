use Rattle.std.proofs.Common.{◌≡◌, drop}
use Rattle.c_tree.specs.SyntaxViews.{specs_items}
use Rattle.model_checking.specs.Words as m
use Rattle.check_specifiers.specs.Storages.{storage_in, with_storage}
use Rattle.check_specifiers.proofs.words.storage_of.Given as goal

abbrev pub invariant-loop-spec : goal.invariant-loop-spec
invariant-loop-spec l =
    with_storage (storage_in l.storage) (m.storage_of (m.words_of (specs_items (drop l.spec-index l.specs)))) ≡ m.storage_of (m.words_of (specs_items l.specs))
