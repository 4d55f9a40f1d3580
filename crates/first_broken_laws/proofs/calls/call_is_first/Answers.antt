use Rattle.first_broken_laws.proofs.CallLaws.{call_named}
use Rattle.first_broken_laws.proofs.calls.call_is_first.Goals as goal

pub returns : goal.returns
returns c = call_named
