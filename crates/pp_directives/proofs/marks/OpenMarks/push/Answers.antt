use Rattle.std.proofs.Common.{ap, sym, ◌∙◌, add-one}
use Rattle.model_preprocessing.specs.Pragmas.{pushes_after}
use Rattle.pp_directives.proofs.StateLaws.{marks-kept}
use Rattle.pp_directives.proofs.marks.OpenMarks.push.Goals as goal
use Rattle.pp_directives.proofs.marks.OpenMarks.push.Goals.{in-Push, in-Pop, in-Assign}

pub invariant_of-self-2 : goal.invariant_of-self-2
invariant_of-self-2 c =
    let kept = marks-kept c.self.inside.marks c.push.new.self c.args.mark c.self.inside.pushes c.match-mark.pushes c.in_ok-push.ensures.ok c.self.invariant.0 c.self.invariant.1 in
    kept (elim c.match-mark.branch [
      | in-Push w ↦ w.pushes-is ∙ add-one c.self.inside.pushes ∙ sym (ap (pushes_after c.self.inside.pushes) w.in-Push.is)
      | in-Pop w ↦ w.pushes-is ∙ w.saturating_sub-pushes.ensures ∙ sym (ap (pushes_after c.self.inside.pushes) w.in-Pop.is)
      | in-Assign w ↦ w.pushes-is ∙ sym (ap (pushes_after c.self.inside.pushes) w.in-Assign.is)
    ])
