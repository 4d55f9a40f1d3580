-- The states that a tracked place may have at a point of an ownership graph: those that a path from
-- the start gives, followed for that place alone.
use Rattle.std.specs.Prelude.{◌≡◌, ◌≢◌, ℕ, true, false, List, Contains}
use Rattle.own_flow.specs.declared.flow.State.{State}
use Rattle.own_flow.specs.declared.flow.State.TheVariants.{Live}
use Rattle.own_flow.specs.declared.flow.States.{States}
use Rattle.own_flow.specs.declared.flow.Action.{Action}
use Rattle.own_flow.specs.declared.flow.Action.TheVariants as act
use Rattle.own_flow.specs.declared.flow.Edge.{Edge}
use Rattle.own_flow.specs.declared.flow.Fact.{Fact}
use Rattle.own_flow.specs.declared.flow.Fact.TheVariants.{Reached, Has}
use Rattle.cake_base.specs.declared.places.Place.{Place}
use Rattle.cake_base.specs.declared.rules.Rule.{Rule}
use Rattle.own_flow.specs.FlowGraph.{is_in}

-- the action says nothing of the place
abbrev pub LeavesAlone : Action → ℕ → Type 0
LeavesAlone act.Pass x = Unit {0}
LeavesAlone (act.Set p states) x = x ≢ p
LeavesAlone (act.Copy p q) x = x ≢ p
LeavesAlone (act.Give p state) x = x ≢ p
LeavesAlone (act.Test p states) x = x ≢ p
LeavesAlone (act.Need p states place rule) x = x ≢ p

-- what an edge with the action makes, at its end, of one fact at its start
pub data Gives : Action → Fact → Fact → Type 0 where
  -- every action goes on
  reach : {a : Action} → Gives a Reached Reached
  -- Set: p gets each of the states
  set : {p : ℕ} {states : States} {s : State} → is_in s states ≡ true → Gives (act.Set p states) Reached (Has p s)
  -- Copy: p gets the states of q
  copy : {p q : ℕ} {s : State} → Gives (act.Copy p q) (Has q s) (Has p s)
  -- Give: live becomes the state
  give : {p : ℕ} {to : State} → Gives (act.Give p to) (Has p Live) (Has p to)
  -- Give: other states stay
  stay : {p : ℕ} {to s : State} → s ≢ Live → Gives (act.Give p to) (Has p s) (Has p s)
  -- Test: the states of the set pass
  pass : {p : ℕ} {states : States} {s : State} → is_in s states ≡ true → Gives (act.Test p states) (Has p s) (Has p s)
  -- Need: the states outside of the set pass
  meet : {p : ℕ} {states : States} {place : Place} {rule : Rule} {s : State} → is_in s states ≡ false → Gives (act.Need p states place rule) (Has p s) (Has p s)
  -- every other place keeps its states
  keep : {a : Action} {x : ℕ} {s : State} → LeavesAlone a x → Gives a (Has x s) (Has x s)

-- the least relation: the start is reached, and each edge makes of what is possible at its start
-- what its action gives
pub data Possible (edges : List Edge) : ℕ → Fact → Type 0 where
  start : Possible edges 0 Reached
  along : {from to : ℕ} {a : Action} {f g : Fact} → Contains edges (record { from = from; action = a; to = to }) → Possible edges from f → Gives a f g → Possible edges to g
