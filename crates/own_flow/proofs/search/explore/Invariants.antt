use Rattle.own_flow.proofs.Exploring.{Exploring, work}
use Rattle.own_flow.proofs.search.explore.Given as goal

abbrev pub invariant-loop-node : goal.invariant-loop-node
invariant-loop-node g l = Exploring l.graph.places l.graph.points l.graph.edges l.search l.fn.steps l.steps

abbrev pub decreases-loop-node : goal.decreases-loop-node
decreases-loop-node g l = work l.search
