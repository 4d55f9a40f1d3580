use Rattle.std.proofs.Common.{refl, Err}
use Rattle.check_specifiers.proofs.declaration_lists.with_fault_given.Goals as goal

pub returns : goal.returns
returns c s = c.beside_declarators.ensures (Err c.args.fault) s refl c.block_function_fault-shown.ensures
