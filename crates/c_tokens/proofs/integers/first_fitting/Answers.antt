use Rattle.std.specs.Int.{w128}
use Rattle.std.proofs.lemmas.Int.{to_z-of_z}
use Rattle.c_tokens.proofs.FittingLaws.{fits_here}
use Rattle.c_tokens.proofs.integers.first_fitting.Goals as goal

pub returns-in-Some : goal.returns-in-Some
returns-in-Some c =
    fits_here c.args.types.now c.loop-basic.basic-index _ c.args.value _ c.constant_in.result c.in-Some.constant c.loop-basic-test.true
    (to_z-of_z w128 c.args.value c.ranges.value) c.constant_in.ensures c.in-Some.is c.loop-basic.invariant
