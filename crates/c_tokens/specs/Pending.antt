-- A string that the next one is joined to.
use Rattle.std.specs.Prelude.{ℕ, Bool, true, false, List, [], ◌∷◌, ◌++◌, Option, Some, None}
use Rattle.cake_base.specs.declared.places.Place.{Place}
use Rattle.model_tokens.specs.declared.tokens.CKind.{CKind}
use Rattle.model_tokens.specs.declared.tokens.CKind.TheVariants as kind_of
use Rattle.model_tokens.specs.declared.tokens.CTok.{CTok}
use Rattle.c_tokens.specs.declared.strings.Pending.{Pending}

abbrev pub is_text : CKind → Bool
is_text (kind_of.Text bytes) = true
is_text kind = false

-- the token that a pending string is
abbrev pub tokens : Option Pending → List CTok
tokens None = []
tokens (Some string) = record { kind = kind_of.Text string.bytes; place = string.place } ∷ []

-- the pending string with one more
abbrev pub longer : Option Pending → List ℕ → Place → Pending
longer None bytes place = record { bytes = bytes; place = place }
longer (Some string) bytes place = record { bytes = string.bytes ++ bytes; place = string.place }
