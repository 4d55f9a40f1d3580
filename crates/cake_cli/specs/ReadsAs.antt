-- What the reader's answer says of the tokens.
use Rattle.std.specs.Prelude.{◌≡◌, ℕ, List}
use Rattle.cake_base.specs.declared.places.Place.{Place}
use Rattle.model_tokens.specs.declared.tokens.CTok.{CTok}
use Rattle.c_model.specs.FirstUnit.{IsUnit, UnitPlaces, StopsAt, returning, token_place}
use Rattle.cake_cli.specs.Reader.{Reading, Stops, Reads}

-- the place is that of the token with which no unit goes on, or the value is that of the unit's core
abbrev pub ReadsAs : List CTok → (end : Place) → Reading → Type 0
ReadsAs tokens end (Stops place) = (rank : ℕ) × StopsAt tokens rank × (place ≡ token_place tokens end rank)
ReadsAs tokens end (Reads value) = (places : UnitPlaces) × IsUnit tokens (returning value places)
