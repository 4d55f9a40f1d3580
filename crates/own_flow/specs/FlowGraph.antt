-- The ownership graph of a function: points, and edges with an action each, along the order of
-- evaluation of its full expressions and statements (ISO/IEC 9899:2024, 5.1.2.4, 6.8).
use Rattle.std.specs.Prelude.{ℕ, ◌<◌, Bool, true, false, List}
use Rattle.own_flow.specs.declared.flow.State.{State}
use Rattle.own_flow.specs.declared.flow.State.TheVariants.{Uninitialised, Null, Live, Moved, Deleted}
use Rattle.own_flow.specs.declared.flow.States.{States}
use Rattle.own_flow.specs.declared.flow.Action.{Action}
use Rattle.own_flow.specs.declared.flow.Action.TheVariants as act
use Rattle.own_flow.specs.declared.flow.Edge.{Edge}

-- two states are one
abbrev pub same_state : State → State → Bool
same_state Uninitialised Uninitialised = true
same_state Null Null = true
same_state Live Live = true
same_state Moved Moved = true
same_state Deleted Deleted = true
same_state _ _ = false

-- a state is in a set
abbrev pub is_in : State → States → Bool
is_in Uninitialised states = states.uninitialised
is_in Null states = states.null
is_in Live states = states.live
is_in Moved states = states.moved
is_in Deleted states = states.deleted

-- a graph: so many tracked places and so many points, and its edges in the order in which they came
pub record Graph : Type 0 where
  pub places : ℕ
  pub points : ℕ
  pub edges : List Edge

-- the places of an action are among the first `places`
abbrev pub InPlaces : ℕ → Action → Type 0
InPlaces places act.Pass = Unit {0}
InPlaces places (act.Set p states) = p < places
InPlaces places (act.Copy p q) = (p < places) × (q < places)
InPlaces places (act.Give p state) = p < places
InPlaces places (act.Test p states) = p < places
InPlaces places (act.Need p states place rule) = p < places

-- an edge's points and places are those of the graph
pub record Fits (places points : ℕ) (edge : Edge) : Type 0 where
  pub from : edge.from < points
  pub to : edge.to < points
  pub action : InPlaces places edge.action
