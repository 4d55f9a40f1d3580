-- All that a state of checking has but the scopes, and a state of both.
use Rattle.std.specs.Prelude.{◌≡◌, ℕ, List, [], Option, None}
use Rattle.cake_base.specs.declared.places.Place.{Place}
use Rattle.model_types.specs.Types.{CType}
use Rattle.model_scopes.specs.Scopes.{Scopes}
use Rattle.model_checking.specs.State.{Waiting, Made, Valued, Body, State}

-- the fields are those of a state
pub record Kept : Type 0 where
  pub waiting : List Waiting
  pub made : List Made
  pub automatic : List ℕ
  pub taken : List ℕ
  pub named : List (Place × CType)
  pub values : List Valued
  pub bodies : List Body
  pub left_out : List (ℕ × ℕ)
  pub limit : Option Place

abbrev pub nothing_kept : Kept
nothing_kept = record { waiting = []; made = []; automatic = []; taken = []; named = []; values = []; bodies = []; left_out = []; limit = None }

abbrev pub state : Scopes → Kept → State
state scopes k = record {
  scopes = scopes;
  waiting = k.waiting;
  made = k.made;
  automatic = k.automatic;
  taken = k.taken;
  named = k.named;
  values = k.values;
  bodies = k.bodies;
  left_out = k.left_out;
  limit = k.limit;
}

-- a step of the definition that leaves the scopes alone, whatever they are
abbrev pub Steps : (step : State → State) → (old new : Kept) → Type 0
Steps step old new = (scopes : Scopes) → state scopes new ≡ step (state scopes old)
