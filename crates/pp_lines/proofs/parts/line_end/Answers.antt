use Rattle.std.proofs.Common.{◌≡◌, sym, ◌∙◌, ap, arith, None, slice_get}
use Rattle.pp_lines.proofs.RankLaws.{none_short, copied-none}
use Rattle.pp_lines.proofs.SplitLaws.{length-init, length-next, length-done}
use Rattle.pp_lines.proofs.parts.line_end.Goals as goal

pub loop-at-init : goal.loop-at-init
loop-at-init c = length-init c.args.toks.now c.args.from c.requires

pub returns-in_default-clause-value : goal.returns-in_default-clause-value
returns-in_default-clause-value c =
    let none : slice_get c.args.toks.now c.loop-at.at ≡ None = copied-none _ _ _ c.get.ensures c.in_default.is in
    let short = none_short c.args.toks.now c.loop-at.at none in
    absurd (omega (arith, short, c.loop-at-test.true, c.count-end.ensures.value))

pub returns-then-tok-clause-value : goal.returns-then-tok-clause-value
returns-then-tok-clause-value c = length-done c.args.toks.now c.loop-at.at _ c.in-Some.tok.now (sym c.in-Some.ensures) (ap (λ t. t.first) (sym c.tok.view_is) ∙ c.if-tok.true) c.loop-at.invariant

pub loop-at-preserved : goal.loop-at-preserved
loop-at-preserved c = length-next c.args.toks.now c.loop-at.at _ c.in-Some.tok.now (sym c.in-Some.ensures) (ap (λ t. t.first) (sym c.tok.view_is) ∙ c.if-tok.false) c.loop-at.invariant
