use Rattle.std.proofs.Common.{◌^◌, arith}
use Rattle.c_tokens.proofs.DigitLaws.{value_on}
use Rattle.c_tokens.proofs.digits.value.Goals as goal

pub loop-b-preserved : goal.loop-b-preserved
loop-b-preserved c = (
  omega (arith, c.next_value-value.ensures),
  value_on c.args.radix c.loop-b.value c.next_value-value.result (2 ^ 64) c.loop-b.b-index c.args.text.now _ c.requires.radix.0 c.loop-b-test.true c.next_value-value.ensures c.loop-b.invariant.1,
)
