-- Tokens that come after the tokens so far.
use Rattle.std.specs.Prelude.{◌≡◌, ℕ, ◌-◌, List, [], ◌∷◌, ◌++◌, length, drop, Result, Ok, Err}
use Rattle.cake_base.specs.declared.rules.LimitHit.{LimitHit}
use Rattle.model_tokens.specs.PpTokens.{PpToken}
use Rattle.model_preprocessing.specs.Sources.{ranked_from}
use Rattle.model_preprocessing.specs.ControlLines.{MOST_TOKENS}
use Rattle.pp_directives.specs.declared.errors.PrepError.{PrepError}
use Rattle.pp_directives.specs.declared.errors.PrepError.TheVariants as prep_error

-- the new tokens with their ranks, and those of them that are too many
abbrev pub new_tokens : List PpToken → List PpToken → List PpToken
new_tokens old new = ranked_from (length old) new

abbrev pub too_many : List PpToken → List PpToken → List PpToken
too_many old new = drop (MOST_TOKENS - length old) (new_tokens old new)

abbrev pub HitsAt : List PpToken → LimitHit → Type 0
HitsAt past hit = (t : PpToken) × (ts : List PpToken) × (past ≡ t ∷ ts) × (hit ≡ record { place = t.place; limit = record { number = 5 } })

abbrev pub Appends : List PpToken → List PpToken → Result (Unit {0}) PrepError → List PpToken → Type 0
Appends old new (Ok done) all = (too_many old new ≡ []) × (all ≡ old ++ new_tokens old new)
Appends old new (Err (prep_error.Limit hit)) all = HitsAt (too_many old new) hit × (all ≡ old)
Appends old new (Err (prep_error.Fault fault)) all = ⊥
Appends old new (Err (prep_error.Read file cause)) all = ⊥
Appends old new (Err prep_error.NoMemory) all = Unit {0}
