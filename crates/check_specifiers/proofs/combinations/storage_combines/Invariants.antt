use Rattle.std.proofs.Common.{◌≡◌, not, drop}
use Rattle.std.specs.List.{list_any}
use Rattle.c_tree.specs.SyntaxViews.{specs_items}
use Rattle.model_checking.specs.Words as w
use Rattle.model_checking.specs.SpecifierWords as m
use Rattle.check_specifiers.proofs.combinations.storage_combines.Given as goal

abbrev pub invariant-loop-spec : goal.invariant-loop-spec
invariant-loop-spec l =
    list_any (λ other. not (m.stands_beside l.word other)) (w.words_of (specs_items (drop l.spec-index l.before)))
    ≡ list_any (λ other. not (m.stands_beside l.word other)) (w.words_of (specs_items l.before))
