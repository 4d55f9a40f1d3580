use Rattle.c_model.proofs.Carried.{same_runs_carry, exports_carry}
use Rattle.c_model.proofs.translation_laws.same_runs_carry.Goals as goal

pub returns-clause-from : goal.returns-clause-from
returns-clause-from c = same_runs_carry

pub returns-clause-exports : goal.returns-clause-exports
returns-clause-exports c = exports_carry
