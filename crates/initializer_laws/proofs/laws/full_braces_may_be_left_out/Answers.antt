use Rattle.initializer_laws.proofs.Elided.{full_left_out}
use Rattle.initializer_laws.proofs.laws.full_braces_may_be_left_out.Goals as goal

pub returns : goal.returns
returns c = full_left_out
