use Rattle.std.proofs.Common.{sym, ◌∙◌, ap}
use Rattle.std.proofs.lemmas.Result.{err_from_is_err_and}
use Rattle.model_preprocessing.specs.Sources.{tokens_here}
use Rattle.pp_directives.proofs.ControlLaws.{replaced-ok, replaced-err}
use Rattle.pp_directives.proofs.unit.Unit.replaced.Goals as goal

pub returns-in_err-list : goal.returns-in_err-list
returns-in_err-list c =
    let q = err_from_is_err_and c.from_residual-in_err-list.result c.from_residual-in_err-list.ensures.1 in
    rw (q.1, q.2) (replaced-err c.args.self.now _ c.args.toks.now c.in_ok-line.line c.in_err-list.field-0.0 c.expand.new.work.made c.self.view_is c.in_ok-line.ensures c.in_err-list.ensures)

pub returns : goal.returns
returns c = replaced-ok c.args.self.now _ c.args.toks.now c.in_ok-line.line c.in_ok-list.list c.expand.new.work.made c.self.view_is c.in_ok-line.ensures c.in_ok-list.ensures
