-- `defined` and its operand at the rank.
use Rattle.std.proofs.Common.{List, [], ◌∷◌, ◌++◌, ◌+◌, ◌∙◌, ap, sym, subst, arith}
use Rattle.model_tokens.specs.PpTokens.{PpToken}
use Rattle.model_conditions.specs.Defined.{told}
use Rattle.pp_conditions.specs.Lines.{Follows}
use Rattle.pp_conditions.proofs.LineLaws.{tells, misses}
use Rattle.pp_conditions.proofs.defined.answer.Goals as goal

pub returns-in_ok-push-in-Some-clause-ok : goal.returns-in_ok-push-in-Some-clause-ok
returns-in_ok-push-in-Some-clause-ok c =
    let e = c.in_ok-push-in-Some.ensures.ok
    ∙ ap (λ (z : PpToken). c.args.out.now ++ z ∷ []) (c.in_ok-told-in-Some.ensures ∙ ap (told c.args.tok.now) c.is_defined.ensures) in (
      omega arith,
      subst (λ (z : List PpToken). Follows c.args.table.now.entries c.args.line.now c.args.at (c.args.at + 1 + c.in-Some.asked.tokens) c.args.out.now z) (sym e)
          (tells c.args.table.now.entries c.args.line.now c.args.at c.args.tok.now (record { name = c.in-Some.asked.name.now; tokens = c.in-Some.asked.tokens })
          c.args.out.now c.requires.here c.requires.asks c.in-Some.ensures.asked),
    )

pub returns-in-None-clause-err : goal.returns-in-None-clause-err
returns-in-None-clause-err c =
    misses c.args.table.now.entries c.args.line.now c.args.at c.args.tok.now c.requires.here c.requires.asks c.in-None.ensures.asked
