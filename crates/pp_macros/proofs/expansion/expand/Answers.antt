use Rattle.std.proofs.lemmas.Result.{err_from_is_err_and}
use Rattle.pp_macros.proofs.GoOnLaws.{expanded-ok, expanded-err}
use Rattle.pp_macros.proofs.expansion.expand.Goals as goal

pub returns-in_err-done : goal.returns-in_err-done
returns-in_err-done c =
    let q = err_from_is_err_and c.from_residual-in_err-done.result c.from_residual-in_err-done.ensures.1 in
    rw (q.1, q.2) (expanded-err c.args.table.now c.args.toks.now c.args.work.now.made c.expand_run.new.made c.in_ok-run.run' c.in_err-done.field-0.0 c.in_ok-run.ensures c.in_err-done.ensures)

pub returns : goal.returns
returns c = expanded-ok c.args.table.now c.args.toks.now c.args.work.now.made c.expand_run.new.made c.in_ok-run.run' c.in_ok-done.done c.in_ok-list.list c.in_ok-run.ensures c.in_ok-done.ensures c.in_ok-list.ensures
