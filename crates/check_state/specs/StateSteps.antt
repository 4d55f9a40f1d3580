-- Steps of checking that the definition has no public word for.
use Rattle.std.specs.Prelude.{ℕ, Bool, List, [], ◌∷◌, ◌++◌, if◌then◌else◌}
use Rattle.cake_base.specs.declared.places.Place.{Place}
use Rattle.model_scopes.specs.Declarations.{Declaration}
use Rattle.model_scopes.specs.Scopes.{drawn}
use Rattle.model_checking.specs.State.{Use, Evaluated, Unevaluated, Waiting, Valued, Body, State, in_scopes, note_type}
use Rattle.model_checking.specs.Initializing.{without, noted_limit}
use Rattle.model_checking.specs.ParameterDeclarations.{is_parameter}

-- one more function literal waits
abbrev pub with_waiting : Waiting → State → State
with_waiting w s = record (in_scopes (drawn s.scopes) s) { waiting = s.waiting ++ w ∷ [] }

-- none waits
abbrev pub with_none_waiting : State → State
with_none_waiting s = record s { waiting = [] }

-- the values of one more object
abbrev pub with_valued : Valued → State → State
with_valued v s = record s { values = s.values ++ v ∷ [] }

-- behind the initializer of an object: strings that fill arrays have none, and the first object that is too large is noted
abbrev pub behind_initializer : (filling : List ℕ) → (is_too_large : Bool) → (name : Place) → State → State
behind_initializer filling is_too_large name s = record s { made = without filling s.made; limit = noted_limit is_too_large name s.limit }

-- the type of a parameter's object is named
abbrev pub note_parameter : Use → Declaration → State → State
note_parameter u d s = if is_parameter d then note_type u d.place d.ty s else s

-- a function with its body; of one that isn't evaluated what was drawn since a first id is left out
abbrev pub with_body : Use → Body → (from : ℕ) → State → State
with_body Evaluated body from s = record s { bodies = s.bodies ++ body ∷ [] }
with_body Unevaluated body from s = record s { left_out = s.left_out ++ (from, s.scopes.ids) ∷ [] }
