-- The line is read to its end, or up to what refuses it.
use Rattle.std.proofs.Common.{◌∙◌, sym, arith}
use Rattle.std.proofs.lemmas.Result.{err_from_is_err_and}
use Rattle.model_conditions.specs.Defined.{defined_answered}
use Rattle.pp_conditions.proofs.LineLaws.{ended}
use Rattle.pp_conditions.proofs.RefusalLaws.{line_refused}
use Rattle.pp_conditions.proofs.defined.defined_answered.Goals as goal

pub returns-in_err-at : goal.returns-in_err-at
unfolding defined_answered
returns-in_err-at c =
    let e = err_from_is_err_and c.from_residual.result c.from_residual.ensures.1 in
    rw (e.1, e.2) (line_refused c.args.table.now.entries c.args.line.now c.loop-at.out c.loop-at.at c.loop-at.invariant _ c.in_err-at.ensures.err)

pub returns : goal.returns
unfolding defined_answered
returns c = sym c.loop-at.invariant ∙ ended c.args.table.now.entries c.args.line.now c.loop-at.at c.loop-at.out (omega arith)
