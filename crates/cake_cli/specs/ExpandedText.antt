-- The text of preprocessed tokens that `-E` puts: a space between tokens of one line of one file, a line
-- feed where the file or the line of the place changes, and one at the end.
use Rattle.std.specs.Prelude.{ℕ, Bool, ◌&&◌, ◌==◌, if◌then◌else◌, List, [], ◌∷◌, ◌++◌, codes}
use Rattle.cake_base.specs.declared.places.Place.{Place}
use Rattle.model_tokens.specs.PpTokens.{PpToken}

-- the places are of one line of one file
abbrev pub same_line : Place → Place → Bool
same_line place other = (place.file == other.file) && (place.line == other.line)

-- what stands between tokens of these places
abbrev pub parting : Place → Place → List ℕ
parting place next = if same_line place next then codes " " else codes "\n"

-- behind a token of this place
abbrev pub behind_token : Place → List PpToken → List ℕ
behind_token place [] = codes "\n"
behind_token place (token ∷ tokens) = parting place token.place ++ (token.spelling ++ behind_token token.place tokens)

-- no tokens have the empty text
abbrev pub expanded_text : List PpToken → List ℕ
expanded_text [] = []
expanded_text (token ∷ tokens) = token.spelling ++ behind_token token.place tokens
