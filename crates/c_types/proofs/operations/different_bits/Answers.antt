use Rattle.std.proofs.lemmas.Nat.{xor_lt}
use Rattle.model_types.specs.Operations as m
use Rattle.c_types.proofs.operations.different_bits.Goals as goal

pub value_of-requires : goal.value_of-requires
value_of-requires c = xor_lt (m.width c.args.basic) c.bits_of.result c.bits_of-2.result c.bits_of.ensures.bound c.bits_of-2.ensures.bound
