use Rattle.std.proofs.Common.{◌++◌, ◌+◌, ◌-◌, ap, sym, ◌∙◌, append_assoc, arith}
use Rattle.model_c89.specs.SpellingParts89.{indent}
use Rattle.c89_writer.proofs.IndentLaws.{one_less}
use Rattle.c89_writer.proofs.declarations.push_indent.Goals as goal

pub loop-done-preserved : goal.loop-done-preserved
loop-done-preserved c =
    ap (λ o. o ++ indent (c.args.level - (c.loop-done.done + 1))) c.in_ok-push.ensures.ok
    ∙ append_assoc c.loop-done.out _ _
    ∙ ap (λ w. c.loop-done.out ++ w) (sym (one_less c.args.level c.loop-done.done (omega (arith, c.loop-done-test.true))))
    ∙ c.loop-done.invariant
