use Rattle.std.proofs.Common.{◌≡◌, ◌+◌, ◌++◌, ◌∙◌, sym, ap, subst, drop, length, Some, arith}
use Rattle.cake_cli.specs.ExpandedText.{expanded_text}
use Rattle.cake_cli.specs.Behind.{text_behind}
use Rattle.cake_cli.proofs.ExpandedLaws.{one_token, whole_text}
use Rattle.cake_cli.proofs.expanded.expanded_text.Goals as goal

pub loop-at-preserved : goal.loop-at-preserved
loop-at-preserved c =
    ap (λ p. c.push_token.new.text ++ text_behind (Some p) (drop (c.loop-at.at + 1) c.args.tokens.now)) (ap (λ t. t.place) c.token.view_is)
    ∙ one_token c.loop-at.text c.push_token.new.text _ c.loop-at.before c.args.tokens.now c.loop-at.at c.in-Some.token.now (sym c.in-Some.ensures) c.in_ok-push_token.ensures c.loop-at.invariant

pub returns : goal.returns
returns c =
    let end : c.loop-at.at ≡ length c.args.tokens.now = omega (arith, c.count-at-end.ensures.value) in
    whole_text c.loop-at.text c.push_end.new.text _ c.loop-at.before c.args.tokens.now c.in_ok-push_end.ensures
    (subst (λ n. c.loop-at.text ++ text_behind c.loop-at.before (drop n c.args.tokens.now) ≡ expanded_text c.args.tokens.now) end c.loop-at.invariant)
