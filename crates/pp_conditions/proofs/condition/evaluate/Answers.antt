-- The line is answered, replaced and judged, or refused on the way.
use Rattle.std.proofs.lemmas.Result.{err_from_is_err_and}
use Rattle.pp_conditions.proofs.OutcomeLaws.{unanswered, unreplaced, judges, refuses}
use Rattle.pp_conditions.proofs.condition.evaluate.Goals as goal

pub returns-in-Err : goal.returns-in-Err
returns-in-Err c =
    unanswered c.args.table.now c.args.at c.args.line.now c.args.work.now.made c.in-Err.refusal c.in-Err.ensures c.stands.result c.stands.ensures

pub returns-in_err-replaced : goal.returns-in_err-replaced
returns-in_err-replaced c =
    let e = err_from_is_err_and c.from_residual.result c.from_residual.ensures.1 in
    rw (e.1, e.2) (unreplaced c.args.table.now c.args.at c.args.line.now c.in-Ok.answered c.args.work.now.made c.expand.new.work.made c.in-Ok.ensures _ c.in_err-replaced.ensures)

pub returns-in-Ok-judge_replaced : goal.returns-in-Ok-judge_replaced
returns-in-Ok-judge_replaced c =
    judges c.args.table.now c.args.at c.args.line.now c.in-Ok.answered c.in_ok-replaced.replaced c.args.work.now.made c.expand.new.work.made c.in-Ok.ensures
    c.in_ok-replaced.ensures c.in-Ok-judge_replaced.holds c.in-Ok-judge_replaced.ensures

pub returns : goal.returns
returns c =
    refuses c.args.table.now c.args.at c.args.line.now c.in-Ok.answered c.in_ok-replaced.replaced c.args.work.now.made c.expand.new.work.made c.in-Ok.ensures
    c.in_ok-replaced.ensures c.in-Err-judge_replaced.refusal c.in-Err-judge_replaced.ensures c.stands-in-Err-judge_replaced.result c.stands-in-Err-judge_replaced.ensures
