-- The constraints that a part of a unit breaks, as pairs of a place and the number of a rule; and the first of them.
use Rattle.std.specs.Prelude.{◌≡◌, ◌⊎◌, ◌<◌, ◌≤◌, ℕ, Bool, true, false, Option, Some, None, Result, Ok, Err}
use Rattle.cake_base.specs.declared.places.Place.{Place}
use Rattle.cake_base.specs.declared.rules.Fault.{Fault}
use Rattle.model_scopes.specs.DeclarationRules.{constraint_at}
use Rattle.model_checking.specs.State.{State, Both, Answer}

abbrev pub Pairs : Type 1
Pairs = Place → ℕ → Type 0

abbrev pub Nothing : Pairs
Nothing place rule = ⊥

-- a rule, at a place, where a condition holds
abbrev pub At : Place → (number : ℕ) → Bool → Pairs
At at number condition place rule = (condition ≡ true) × (place ≡ at) × (rule ≡ number)

-- the same, where there is a place for it
abbrev pub At_if_any : Option Place → (number : ℕ) → Bool → Pairs
At_if_any None number condition place rule = ⊥
At_if_any (Some at) number condition place rule = At at number condition place rule

-- what either breaks, whatever the other is
abbrev pub Beside : Pairs → Pairs → Pairs
Beside P Q place rule = P place rule ⊎ Q place rule

-- what is broken behind a part, where that has an answer
abbrev pub Behind : {A : Type 0} → Answer A → (A → State → Pairs) → Pairs
Behind (Ok x) Q place rule = Q x.made x.state place rule
Behind (Err fault) Q place rule = ⊥

-- what a part breaks, or what needs the part and comes behind it
abbrev pub Needs : {A : Type 0} → Answer A → Pairs → (A → State → Pairs) → Pairs
Needs part P Q = Beside P (Behind part Q)

-- what is broken where a part has no answer
abbrev pub Without : {A : Type 0} → Answer A → Pairs → Pairs
Without (Ok x) P place rule = ⊥
Without (Err fault) P place rule = P place rule

-- what is broken by what is known, whatever its faults are
abbrev pub In : {A : Type 0} → Both A → (A → State → Pairs) → Pairs
In x Q = Q x.made x.state

-- what is broken where something is made
abbrev pub IfMade : {A : Type 0} → Result A Fault → (A → Pairs) → Pairs
IfMade (Ok x) Q place rule = Q x place rule
IfMade (Err fault) Q place rule = ⊥

-- what is broken where this holds
abbrev pub If : Bool → Pairs → Pairs
If true P place rule = P place rule
If false P place rule = ⊥

-- what is broken where there is no fault
abbrev pub Unless : Option Fault → Pairs → Pairs
Unless None P place rule = P place rule
Unless (Some fault) P place rule = ⊥

-- what is broken where something is there
abbrev pub IfAny : {A : Type 0} → Option A → (A → Pairs) → Pairs
IfAny None Q place rule = ⊥
IfAny (Some x) Q place rule = Q x place rule

-- ---- the first

-- a fault stands before a pair, or at its place with no greater number
abbrev pub IsBefore : Fault → Place → ℕ → Type 0
IsBefore fault place rule =
    (fault.place.order < place.order) ⊎ ((fault.place ≡ place) × (fault.rule.number ≤ rule))

-- a fault is one of the pairs, and comes before all of them
pub record First (P : Pairs) (fault : Fault) : Type 0 where
  pub is_constraint : fault ≡ constraint_at fault.place fault.rule.number
  pub is_broken : P fault.place fault.rule.number
  pub is_first : (place : Place) (rule : ℕ) → P place rule → IsBefore fault place rule

abbrev pub IsUnbroken : Pairs → Type 0
IsUnbroken P = (place : Place) (rule : ℕ) → P place rule → ⊥
