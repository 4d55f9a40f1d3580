use Rattle.std.proofs.Common.{sym, ◌∙◌, ap, [], ◌∷◌, ◌++◌}
use Rattle.pp_lines.proofs.NameLaws.{close-here, close-later}
use Rattle.pp_lines.proofs.names.up_to_close.Goals as goal
use Rattle.model_types.specs.Texts.{same_text}

pub returns-then-eq : goal.returns-then-eq
returns-then-eq c =
    let close = ap (λ z. same_text z (62 ∷ [])) (sym c.spelling.ensures) ∙ ap (same_text c.spelling.result.now) (sym c.as_slice.ensures) ∙ sym c.eq.ensures ∙ c.if-eq.true in
    close-here c.args.toks.now c.loop-at.at c.in-Some.tok.now c.loop-at.text _ (sym c.in-Some.ensures) close c.loop-at.invariant

pub loop-at-preserved : goal.loop-at-preserved
loop-at-preserved c =
    let close = ap (λ z. same_text z (62 ∷ [])) (sym c.spelling.ensures) ∙ ap (same_text c.spelling.result.now) (sym c.as_slice.ensures) ∙ sym c.eq.ensures ∙ c.if-eq.false in
    close-later c.args.toks.now c.loop-at.at c.in-Some.tok.now c.loop-at.text c.push.new.self _ (sym c.in-Some.ensures) close
    (c.in_ok-push.ensures.ok ∙ ap (λ z. c.loop-at.text ++ z) c.spelling-in-loop-at.ensures) c.loop-at.invariant
