-- The reader reads on as the tokens are read.
use Rattle.std.proofs.Common.{◌∙◌, sym, drop-cons}
use Rattle.std.proofs.lemmas.Result.{err_from_is_err_and}
use Rattle.pp_conditions.proofs.ReaderLaws.{ends_at, stop_gives}
use Rattle.pp_conditions.proofs.reader.judge.Goals as goal

pub returns-in_err-reading : goal.returns-in_err-reading
returns-in_err-reading c = let e = err_from_is_err_and c.from_residual.result c.from_residual.ensures.1 in
    rw (e.1, e.2) (stop_gives c.loop-token.reading c.loop-token.token-index c.args.tokens.now _ c.loop-token.invariant _ (drop-cons c.args.tokens.now c.loop-token.token-index _ c.loop-token-test.true) _ c.in_err-reading.ensures)

pub returns-in-Ok : goal.returns-in-Ok
returns-in-Ok c =
    ends_at c.loop-token.reading c.loop-token.token-index c.args.tokens.now c.loop-token.invariant c.loop-token-test.false ∙ sym c.ended.ensures ∙ c.in-Ok.is

pub returns-in-Err : goal.returns-in-Err
returns-in-Err c =
    ends_at c.loop-token.reading c.loop-token.token-index c.args.tokens.now c.loop-token.invariant c.loop-token-test.false ∙ sym c.ended.ensures ∙ c.in-Err.is
