-- The text of tokens behind others.
use Rattle.std.specs.Prelude.{ℕ, List, ◌++◌, Option, Some, None}
use Rattle.cake_base.specs.declared.places.Place.{Place}
use Rattle.model_tokens.specs.PpTokens.{PpToken}
use Rattle.cake_cli.specs.ExpandedText.{parting, expanded_text, behind_token}

-- a token behind that of a place, or the first
abbrev pub token_behind : Option Place → PpToken → List ℕ
token_behind None token = token.spelling
token_behind (Some place) token = parting place token.place ++ token.spelling

-- the text of all tokens there
abbrev pub text_behind : Option Place → List PpToken → List ℕ
text_behind None tokens = expanded_text tokens
text_behind (Some place) tokens = behind_token place tokens
