use Rattle.std.proofs.Common.{◌≤◌, length}
use Rattle.own_flow.specs.Chains.{ChainsFrom}
use Rattle.own_flow.proofs.rows.Chains.new.Given as goal

abbrev pub invariant-loop-at : goal.invariant-loop-at
invariant-loop-at l = ChainsFrom l.edges l.points l.at l.first.items l.next.items × (l.at ≤ length l.edges)

abbrev pub decreases-loop-at : goal.decreases-loop-at
decreases-loop-at l = l.at
