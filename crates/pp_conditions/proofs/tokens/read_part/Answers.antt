-- The token of the rank.
use Rattle.std.proofs.Common.{List, sym, subst}
use Rattle.std.proofs.lemmas.Result.{err_from_is_err_and}
use Rattle.model_conditions.specs.declared.conditions.ConditionToken.{ConditionToken}
use Rattle.pp_conditions.specs.Listed.{Grows}
use Rattle.pp_conditions.proofs.LineLaws.{part}
use Rattle.pp_conditions.proofs.RefusalLaws.{part_refused}
use Rattle.pp_conditions.proofs.tokens.read_part.Goals as goal

pub returns-in_err-token-clause-err : goal.returns-in_err-token-clause-err
returns-in_err-token-clause-err c =
    let e = err_from_is_err_and c.from_residual.result c.from_residual.ensures.1 in
    rw (e.1, e.2) (part_refused c.args.line.now c.args.at c.in-Some.tok.now (sym c.in-Some.ensures) _ c.in_err-token.ensures)

pub returns-clause-ok : goal.returns-clause-ok
returns-clause-ok c =
    subst (λ (z : List ConditionToken). Grows c.args.line.now c.args.at c.args.tokens.now z) (sym c.in_ok-push.ensures)
    (part c.args.line.now c.args.at c.in-Some.tok.now c.in_ok-token.token c.args.tokens.now (sym c.in-Some.ensures) c.in_ok-token.ensures)
