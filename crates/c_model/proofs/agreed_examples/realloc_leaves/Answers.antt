use Rattle.c_model.proofs.Refused.{call_is_left_out as law}
use Rattle.c_model.proofs.agreed_examples.realloc_leaves.Goals as goal

pub returns-clause-left_out : goal.returns-clause-left_out
returns-clause-left_out c = law
