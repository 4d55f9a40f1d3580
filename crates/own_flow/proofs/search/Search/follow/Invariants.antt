use Rattle.std.proofs.Common.{◌-◌, length}
use Rattle.own_flow.proofs.Following.{Followed}
use Rattle.own_flow.proofs.search.Search.follow.Given as goal

abbrev pub invariant-loop-at : goal.invariant-loop-at
invariant-loop-at g l = Followed l.edges l.node l.at l.fn.self l.self l.fn.steps l.steps

abbrev pub decreases-loop-at : goal.decreases-loop-at
decreases-loop-at g l = length l.edges - l.at
