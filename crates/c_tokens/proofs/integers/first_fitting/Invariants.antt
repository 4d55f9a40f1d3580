use Rattle.std.proofs.Common.{◌≡◌, drop}
use Rattle.model_tokens.specs.IntegerConstants.{first_fitting}
use Rattle.c_tokens.proofs.integers.first_fitting.Given as goal

abbrev pub invariant-loop-basic : goal.invariant-loop-basic
invariant-loop-basic l = first_fitting (drop l.basic-index l.types) l.value ≡ first_fitting l.types l.value
