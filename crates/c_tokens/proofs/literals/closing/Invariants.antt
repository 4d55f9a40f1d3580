use Rattle.std.proofs.Common.{◌≡◌, drop, false}
use Rattle.model_tokens.specs.PpSteps.{closing, further}
use Rattle.c_tokens.proofs.literals.closing.Given as goal

abbrev pub invariant-loop-b : goal.invariant-loop-b
invariant-loop-b l = (l.n ≡ l.b-index) × (further l.n (closing l.quote l.escaped (drop l.b-index l.text)) ≡ closing l.quote false l.text)
