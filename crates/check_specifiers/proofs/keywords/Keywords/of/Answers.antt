use Rattle.std.proofs.Common.{◌≡◌, ◌∙◌, ap, arith, ◌+◌, ◌-◌, ◌<◌, length, drop}
use Rattle.c_tree.specs.SyntaxViews.{specs_items}
use Rattle.model_checking.specs.Words as w
use Rattle.check_specifiers.specs.KeywordCounts as k
use Rattle.check_specifiers.proofs.KeywordLaws.{keywords_from}
use Rattle.check_specifiers.proofs.keywords.Keywords.of.Goals as goal

pub loop-at-preserved : goal.loop-at-preserved
loop-at-preserved c =
    let next : c.loop-at.at - 1 + 1 ≡ c.loop-at.at = omega (arith, c.loop-at-test.true) in
    let below : c.loop-at.at - 1 < length c.args.specs.now = omega (arith, c.loop-at-test.true, c.loop-at.invariant.0) in (
      omega (arith, c.loop-at.invariant.0),
      keywords_from c.args.specs.now (c.loop-at.at - 1) c.loop-at.at c.index-specs-at.result _ _ next below c.index-specs-at.is c.loop-at.invariant.1 c.with_spec-keywords.ensures,
    )

pub returns : goal.returns
returns c =
    let z : c.loop-at.at ≡ 0 = omega (arith, c.loop-at-test.false) in
    c.loop-at.invariant.1 ∙ ap (λ n. k.keywords_in (w.type_words (w.words_of (specs_items (drop n c.args.specs.now))))) z
