-- What holds behind a part of a unit (ISO/IEC 9899:2024, 6.2.5): what is declared is sound, and the types that there were are
-- there still.
use Rattle.std.specs.Prelude.{◌≡◌, ℕ, true, List, Option}
use Rattle.std.specs.Result.{IfOk}
use Rattle.model_types.specs.Types.{CType}
use Rattle.model_types.specs.Structures.{Structure}
use Rattle.model_types.specs.Layout.{is_complete}
use Rattle.model_core.specs.PossibleTypes.{is_possible, length_fits}
use Rattle.model_checking.specs.State.{State, Both, Answer}
use Rattle.typed_walk_laws.specs.SoundScopes.{are_sound}

-- a type that there was is there, a complete one is complete, and an array that was not too large is not
pub record TypesKept (before after : List Structure) : Type 0 where
  pub possible : (type : CType) → is_possible before type ≡ true → is_possible after type ≡ true
  pub complete : (type : CType) → is_complete before type ≡ true → is_complete after type ≡ true
  pub length : (element : CType) → (count : Option ℕ) → length_fits before element count ≡ true → length_fits after element count ≡ true

pub record Behind (before after : State) : Type 0 where
  pub sound : are_sound after.scopes ≡ true
  pub kept : TypesKept before.scopes.structs after.scopes.structs

-- what a part is, and the state behind it
abbrev pub SoundBoth : {A : Type 0} → State → (List Structure → A → Type 0) → Both A → Type 0
SoundBoth before P x = Behind before x.state × P x.state.scopes.structs x.made

-- the same of a part that breaks nothing
abbrev pub GivesSound : {A : Type 0} → State → (List Structure → A → Type 0) → Answer A → Type 0
GivesSound before P answer = IfOk answer (SoundBoth before P)
