use Rattle.std.proofs.Common.{◌∙◌, ap, sym, ◌++◌}
use Rattle.model_macros.specs.MacroArguments.{Run}
use Rattle.pp_macros.proofs.PastingLaws.{pasted_end}
use Rattle.pp_macros.proofs.pasting.pasted_runs.Goals as goal

pub returns : goal.returns
returns c = pasted_end c.args.left c.pop.new.self c.args.right c.pop-2.new.self c.push-2.new.self c.append.new.self c.in-Some.p c.in-Some-pop.q c.in-Some-2.both
    c.in-Some.ensures (sym c.new-rest.ensures ∙ c.in-Some-pop.ensures) (sym c.in-Some-2.is ∙ c.in_ok-both.ensures) c.in_ok-push-2.ensures
    (c.in_ok-append.ensures ∙ ap (λ (z : Run). c.push-2.new.self ++ z) c.into_row.ensures)
