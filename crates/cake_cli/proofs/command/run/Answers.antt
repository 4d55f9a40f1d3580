use Rattle.std.proofs.Common.{◌∙◌, ap, sym, Some, refl}
use Rattle.cake_cli.specs.WordsRead.{plan_as}
use Rattle.cake_cli.proofs.Outcomes.{usage_outcome, report_outcome, memory_outcome, memory_comes_out}
use Rattle.cake_cli.proofs.PlanLaws.{named_plan}
use Rattle.cake_cli.proofs.command.run.Goals as goal

pub returns-in-Err-Bad-clause-outcome : goal.returns-in-Err-Bad-clause-outcome
returns-in-Err-Bad-clause-outcome g c =
    usage_outcome _ c.in-Err-Bad.number _ _ _ (rw c.in-Err-Bad.field-0-is at c.in-Err-Bad.ensures.answer)
    (c.as_bytes.ensures.value ∙ c.as_str.ensures.value ∙ (rw c.in-Err-Bad.field-0-is at c.usage_line-line.ensures))
    (c.deliver.ensures (g.F.Files.shows c.args.files.now) (g.F.Files.shows c.args.files.now))

pub returns-in-Err-NoMemory-clause-outcome : goal.returns-in-Err-NoMemory-clause-outcome
returns-in-Err-NoMemory-clause-outcome g c = memory_comes_out _ _ ((rw c.in-Err-NoMemory.field-0-is at c.in-Err-NoMemory.ensures.memory) tt) refl refl

pub returns-in-Ok-report-clause-outcome : goal.returns-in-Ok-report-clause-outcome
returns-in-Ok-report-clause-outcome g c =
    let a = c.in-Ok.ensures.answer in
    report_outcome _ (plan_as c.in-Ok.plan c.as_str-name.result.now) c.in-Ok-report.report _ _ _ _
    (named_plan _ c.in-Ok.plan a.0 c.as_str-name.result.now a.1 (c.in-Some.is ∙ ap Some (sym c.as_str-name.ensures)) a.2)
    c.as_slice.ensures c.as_slice-in-Ok-report.ensures
    (c.in-Ok-report.ensures.report (g.O.Sink.shows c.args.out.now) (g.O.Sink.shows c.deliver-in-Ok-report.new.out) (g.E.Sink.shows c.args.err.now) (g.E.Sink.shows c.deliver-in-Ok-report.new.err))
    (c.deliver-in-Ok-report.ensures (g.F.Files.shows c.args.files.now) (g.F.Files.shows c.report.new.files))

pub returns-clause-outcome : goal.returns-clause-outcome
returns-clause-outcome g c =
    let a = c.in-Ok.ensures.answer in
    memory_outcome _ (plan_as c.in-Ok.plan c.as_str-name.result.now) _
    (named_plan _ c.in-Ok.plan a.0 c.as_str-name.result.now a.1 (c.in-Some.is ∙ ap Some (sym c.as_str-name.ensures)) a.2)
    refl refl
