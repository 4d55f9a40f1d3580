-- What a search of a graph has marked, and what it marks by an edge and by all edges of a point.
use Rattle.std.specs.Prelude.{◌≡◌, ℕ, zero, suc, ◌+◌, ◌*◌, ◌^◌, ◌<◌, Bool, true, cond, ◌==◌, List, length, map, All, Option, Some}
use Rattle.own_flow.specs.declared.flow.State.{State}
use Rattle.own_flow.specs.declared.flow.States.{States}
use Rattle.own_flow.specs.declared.flow.Action.{Action}
use Rattle.own_flow.specs.declared.flow.Action.TheVariants as act
use Rattle.own_flow.specs.declared.flow.Edge.{Edge}
use Rattle.own_flow.specs.declared.flow.Fact.{Fact}
use Rattle.own_flow.specs.declared.flow.Fact.TheVariants.{Reached, Has}
use Rattle.own_flow.specs.FlowGraph.{is_in}
use Rattle.own_flow.specs.PossibleState.{Gives, Possible}
use Rattle.cake_base.specs.declared.rules.Fault.{Fault}
use Rattle.own_flow.specs.declared.nodes.Node.{Node}
use Rattle.own_flow.specs.Nodes.{node_number, row_width, NodeFits}
use Rattle.own_flow.specs.Chains.{edge_at}
use Rattle.own_flow.specs.Marks.{Marked, Grown}

-- a search: the marks of nodes by their numbers, and the nodes that wait
pub record Search : Type 0 where
  pub places : ℕ
  pub points : ℕ
  pub marks : List Bool
  pub waiting : List Node

-- the table has a bit for each node, and what waits are nodes
pub record IsSearch (s : Search) : Type 0 where
  pub small : s.points * row_width s.places < 2 ^ 64
  pub len : length s.marks ≡ s.points * row_width s.places
  pub fits : All (NodeFits s.places s.points) s.waiting

abbrev pub numbers : Search → List ℕ
numbers s = map (node_number s.places) s.waiting

-- the node is marked
abbrev pub HasMark : Search → Node → Type 0
HasMark s node = Marked s.marks (node_number s.places node)

-- a set of nodes, by their numbers, was marked
pub record Grew (A : ℕ → Type 0) (s s' : Search) : Type 0 where
  pub places : s'.places ≡ s.places
  pub points : s'.points ≡ s.points
  pub grown : Grown A s.marks (numbers s) s'.marks (numbers s')

-- the node alone
abbrev pub Just : ℕ → Node → ℕ → Type 0
Just places node x = x ≡ node_number places node

-- the node of the point with the fact, if there is a fact
abbrev pub Maybe : ℕ → ℕ → Option Fact → ℕ → Type 0
Maybe places point o x = (f : Fact) × (o ≡ Some f) × (x ≡ node_number places (record { point = point; fact = f }))

-- the place with the state, if the state is in the set
abbrev pub OneState : ℕ → ℕ → ℕ → States → State → ℕ → Type 0
OneState places point p states s x = (is_in s states ≡ true) × (x ≡ node_number places (record { point = point; fact = Has p s }))

-- the place with each state of the set
abbrev pub EachState : ℕ → ℕ → ℕ → States → ℕ → Type 0
EachState places point p states x = (s : State) × (is_in s states ≡ true) × (x ≡ node_number places (record { point = point; fact = Has p s }))

-- what the action sets, if it sets a place
abbrev pub SetBy : ℕ → ℕ → Action → ℕ → Type 0
SetBy places point (act.Set p states) x = EachState places point p states x
SetBy places point _ x = ⊥

-- what an edge makes of a fact
abbrev pub Made : ℕ → Edge → Fact → ℕ → Type 0
Made places edge f x = (g : Fact) × Gives edge.action f g × (x ≡ node_number places (record { point = edge.to; fact = g }))

-- what those of the first n edges that begin at the node's point make of its fact
abbrev pub MadeBelow : ℕ → List Edge → Node → ℕ → ℕ → Type 0
MadeBelow places edges node n x = (k : ℕ) × (k < n) × ((edge_at edges k).from ≡ node.point) × Made places (edge_at edges k) node.fact x

-- what follows from a node
abbrev pub MadeOf : ℕ → List Edge → Node → ℕ → Type 0
MadeOf places edges node x = MadeBelow places edges node (length edges) x

-- how many of the first n edges begin at the point
abbrev pub degree : List Edge → ℕ → ℕ → ℕ
degree edges point zero = 0
degree edges point (suc n) = degree edges point n + cond ((edge_at edges n).from == point) 1 0

-- a state costs a step an edge; that a point is reached costs none
abbrev pub step_cost : Fact → ℕ → ℕ
step_cost Reached n = 0
step_cost (Has p s) n = n

-- all that is possible is marked, and nothing else is
pub record IsExplored (places points : ℕ) (edges : List Edge) (s : Search) : Type 0 where
  pub same_places : s.places ≡ places
  pub same_points : s.points ≡ points
  pub sound : (node : Node) → NodeFits places points node → HasMark s node → Possible edges node.point node.fact
  pub complete : (node : Node) → Possible edges node.point node.fact → NodeFits places points node × HasMark s node

-- a state of the set is possible for the place at the point
abbrev pub HasState : Search → ℕ → ℕ → States → State → Type 0
HasState s point p states state = (is_in state states ≡ true) × HasMark s (record { point = point; fact = Has p state })

-- the edge breaks a rule at a place
pub record Breaks (s : Search) (edge : Edge) (fault : Fault) : Type 0 where
  pub p : ℕ
  pub states : States
  pub action : edge.action ≡ act.Need p states fault.place fault.rule
  pub state : State
  pub has : HasState s edge.from p states state

-- one of the first n edges breaks a rule at a place
abbrev pub BreaksBelow : Search → List Edge → ℕ → Fault → Type 0
BreaksBelow s edges n fault = (k : ℕ) × (k < n) × Breaks s (edge_at edges k) fault
