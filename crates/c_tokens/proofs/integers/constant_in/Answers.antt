use Rattle.std.specs.Int.{w128}
use Rattle.std.proofs.lemmas.Int.{to_z-of_z}
use Rattle.c_tokens.proofs.FittingLaws.{constant_field}
use Rattle.c_tokens.proofs.integers.constant_in.Goals as goal

pub returns-then-value-highest : goal.returns-then-value-highest
returns-then-value-highest c = constant_field c.args.basic c.args.value _ (to_z-of_z w128 c.args.value c.ranges.value) _
