-- The identifiers before a place of a list of tokens, each with the rank of the first token of its spelling.
use Rattle.std.specs.Prelude.{ℕ, ◌≡◌, ◌+◌, if◌then◌else◌, List, [], ◌∷◌, ◌++◌, take, Option, Some, None}
use Rattle.std.specs.Str.{bytes_eq}
use Rattle.model_tokens.specs.declared.tokens.CKind.{CKind}
use Rattle.model_tokens.specs.declared.tokens.CKind.TheVariants as token
use Rattle.model_tokens.specs.declared.tokens.CTok.{CTok}
use Rattle.model_grammar.specs.TerminalsOf.{is_spelled}

abbrev pub Spelled : Type 0
Spelled = List ℕ × ℕ

abbrev pub ranked : List ℕ → List Spelled → Option ℕ
ranked spelling [] = None
ranked spelling (e ∷ es) = if bytes_eq spelling e.0 then Some e.1 else ranked spelling es

abbrev pub known_or : ℕ → Option ℕ → ℕ
known_or rank None = rank
known_or rank (Some first) = first

abbrev pub with_spelling : Option ℕ → List ℕ → ℕ → List Spelled → List Spelled
with_spelling None spelling rank seen = seen ++ (spelling, rank) ∷ []
with_spelling (Some first) spelling rank seen = seen

-- the number of a token of this kind at this rank, behind tokens with these spellings
abbrev pub number_behind : List Spelled → ℕ → CKind → ℕ
number_behind seen rank (token.Name spelling) = known_or rank (ranked spelling seen)
number_behind seen rank _ = 0

-- the spellings, with that of a token of this kind
abbrev pub with_kind : List Spelled → ℕ → CKind → List Spelled
with_kind seen rank (token.Name spelling) = with_spelling (ranked spelling seen) spelling rank seen
with_kind seen rank _ = seen

-- the rank of the first identifier of this spelling, where the first token has the given rank
abbrev pub first_seen : List ℕ → ℕ → List CTok → Option ℕ
first_seen spelling rank [] = None
first_seen spelling rank (t ∷ ts) = if is_spelled spelling t.kind then Some rank else first_seen spelling (rank + 1) ts

-- these are the spellings of the first n tokens
abbrev pub AreBefore : List CTok → ℕ → List Spelled → Type 0
AreBefore tokens n seen = (spelling : List ℕ) → ranked spelling seen ≡ first_seen spelling 0 (take n tokens)
