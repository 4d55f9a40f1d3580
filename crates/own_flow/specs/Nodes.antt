-- Facts at points, each with a number: a row for each point, with one bit for the point and five for
-- each place.
use Rattle.std.specs.Prelude.{ℕ, ◌+◌, ◌*◌, ◌<◌}
use Rattle.own_flow.specs.declared.flow.State.{State}
use Rattle.own_flow.specs.declared.flow.State.TheVariants.{Uninitialised, Null, Live, Moved, Deleted}
use Rattle.own_flow.specs.declared.flow.Fact.{Fact}
use Rattle.own_flow.specs.declared.flow.Fact.TheVariants.{Reached, Has}
use Rattle.own_flow.specs.declared.nodes.Node.{Node}

abbrev pub state_number : State → ℕ
state_number Uninitialised = 0
state_number Null = 1
state_number Live = 2
state_number Moved = 3
state_number Deleted = 4

abbrev pub fact_number : Fact → ℕ
fact_number Reached = 0
fact_number (Has p s) = 1 + 5 * p + state_number s

-- how many facts there are about so many places
abbrev pub row_width : ℕ → ℕ
row_width places = 5 * places + 1

abbrev pub node_number : ℕ → Node → ℕ
node_number places node = node.point * row_width places + fact_number node.fact

-- the fact is about one of so many places
abbrev pub FactFits : ℕ → Fact → Type 0
FactFits places Reached = Unit {0}
FactFits places (Has p s) = p < places

-- the node is one of a graph
pub record NodeFits (places points : ℕ) (node : Node) : Type 0 where
  pub point : node.point < points
  pub fact : FactFits places node.fact
