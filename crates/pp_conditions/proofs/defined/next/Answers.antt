-- The token of the rank.
use Rattle.std.proofs.Common.{List, [], ◌∷◌, ◌++◌, ◌+◌, ◌∙◌, ap, sym, subst, arith}
use Rattle.model_tokens.specs.PpTokens.{PpToken}
use Rattle.pp_conditions.specs.Lines.{Follows}
use Rattle.pp_conditions.proofs.LineLaws.{passes, leaves_out, keeps}
use Rattle.pp_conditions.proofs.defined.next.Goals as goal

pub returns-in_default-clause-ok : goal.returns-in_default-clause-ok
returns-in_default-clause-ok c =
    (omega arith, passes c.args.table.now.entries c.args.line.now c.args.at c.args.out.now (sym c.in_default.ensures))

pub returns-then-is_left_out-clause-err : goal.returns-then-is_left_out-clause-err
returns-then-is_left_out-clause-err c =
    leaves_out c.args.table.now.entries c.args.line.now c.args.at c.in-Some.tok.now (sym c.in-Some.ensures) (sym c.if-spells.ensures) (sym c.if-is_left_out.ensures)

pub returns-clause-ok : goal.returns-clause-ok
returns-clause-ok c =
    let e = c.in_ok-push.ensures.ok ∙ ap (λ (z : PpToken). c.args.out.now ++ z ∷ []) c.in_ok-copy.ensures in (
      omega arith,
      subst (λ (z : List PpToken). Follows c.args.table.now.entries c.args.line.now c.args.at (c.args.at + 1) c.args.out.now z) (sym e)
          (keeps c.args.table.now.entries c.args.line.now c.args.at c.in-Some.tok.now c.args.out.now (sym c.in-Some.ensures) (sym c.if-spells.ensures) (sym c.if-is_left_out.ensures)),
    )
