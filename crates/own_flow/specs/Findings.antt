-- The findings of an ownership graph: where a rule is broken, each once, in the order of the source.
use Rattle.std.specs.Prelude.{◌≡◌, ℕ, ◌<◌, true, ◌⊎◌, List, [], ◌∷◌, Contains, AllPairs}
use Rattle.own_flow.specs.declared.flow.State.{State}
use Rattle.own_flow.specs.declared.flow.States.{States}
use Rattle.own_flow.specs.declared.flow.Action.TheVariants.{Need}
use Rattle.own_flow.specs.declared.flow.Edge.{Edge}
use Rattle.own_flow.specs.declared.flow.Fact.TheVariants.{Has}
use Rattle.cake_base.specs.declared.rules.Fault.{Fault}
use Rattle.cake_base.specs.declared.rules.Family.{Family}
use Rattle.cake_base.specs.declared.rules.Family.TheVariants as family
use Rattle.own_flow.specs.FlowGraph.{is_in}
use Rattle.own_flow.specs.PossibleState.{Possible}

-- a Need of the graph has the place and the rule, and one of its states is possible where it begins
pub record IsFinding (edges : List Edge) (fault : Fault) : Type 0 where
  pub p : ℕ
  pub states : States
  pub from : ℕ
  pub to : ℕ
  pub edge : Contains edges (record { from = from; action = Need p states fault.place fault.rule; to = to })
  pub state : State
  pub forbidden : is_in state states ≡ true
  pub possible : Possible edges from (Has p state)

-- the rank of a family in the list of them
abbrev pub family_rank : Family → ℕ
family_rank family.P = 0
family_rank family.L = 1
family_rank family.S = 2
family_rank family.C = 3
family_rank family.F = 4
family_rank family.G = 5

-- what decides the order: the place's order, then the rule's number, then what is left of the two
abbrev pub order_key : Fault → List ℕ
order_key fault = fault.place.order ∷ fault.rule.number ∷ fault.place.file ∷ fault.place.line ∷ fault.place.column ∷ family_rank fault.rule.family ∷ []

-- the first list is below the second where they first differ
abbrev pub IsBelow : List ℕ → List ℕ → Type 0
IsBelow (m ∷ ms) (n ∷ ns) = (m < n) ⊎ ((m ≡ n) × IsBelow ms ns)
IsBelow _ _ = ⊥

-- a fault comes before another
abbrev pub Precedes : Fault → Fault → Type 0
Precedes first second = IsBelow (order_key first) (order_key second)

-- the list has the findings of the graph and nothing else, in order, each once
pub record AreFindings (edges : List Edge) (list : List Fault) : Type 0 where
  pub sound : (fault : Fault) → Contains list fault → IsFinding edges fault
  pub complete : (fault : Fault) → IsFinding edges fault → Contains list fault
  pub ordered : AllPairs Precedes list
