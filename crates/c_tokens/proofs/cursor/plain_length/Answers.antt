use Rattle.std.proofs.Common.{◌≡◌, sym, ap, ◌∙◌, arith, get_or}
use Rattle.c_tokens.specs.Runs.{is_plain}
use Rattle.c_tokens.proofs.RunLaws.{one_more}
use Rattle.c_tokens.proofs.cursor.plain_length.Goals as goal

pub loop-b-preserved : goal.loop-b-preserved
loop-b-preserved c =
    let same : c.loop-b.n ≡ c.loop-b.b-index = c.loop-b.invariant.0 in (
      omega arith,
      omega (arith, c.loop-b.invariant.1),
      one_more c.loop-b.n c.args.text.now (rw same c.loop-b-test.true) c.loop-b.invariant.2
          (ap (λ k. is_plain (get_or c.args.text.now k 0)) same ∙ sym c.is_plain.ensures ∙ c.if-not-is_plain.false),
    )
