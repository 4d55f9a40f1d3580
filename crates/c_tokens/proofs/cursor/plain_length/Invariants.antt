use Rattle.std.proofs.Common.{◌≡◌, ◌≤◌, take, true}
use Rattle.c_tokens.specs.Runs.{all_plain}
use Rattle.c_tokens.proofs.cursor.plain_length.Given as goal

abbrev pub invariant-loop-b : goal.invariant-loop-b
invariant-loop-b l = (l.n ≡ l.b-index) × (l.n ≤ l.limit) × (all_plain (take l.n l.text) ≡ true)
