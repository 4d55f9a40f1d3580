use Rattle.std.proofs.Common.{ap, sym, ◌∙◌, ◌++◌}
use Rattle.pp_directives.proofs.ControlLaws.{note-step}
use Rattle.pp_directives.proofs.control.note_text.Goals as goal

pub loop-at-preserved : goal.loop-at-preserved
loop-at-preserved c =
    note-step c.args.toks.now c.loop-at.at c.in-Some-get.tok.now c.loop-at.text c.push-in-loop-at.new.self _ _ (sym c.in-Some-get.ensures) c.in_ok-push-2.ensures.ok
    (c.in_ok-push-3.ensures.ok ∙ ap (λ z. c.push-in-loop-at.new.self ++ z) c.spelling-in-loop-at.ensures) c.loop-at.invariant
