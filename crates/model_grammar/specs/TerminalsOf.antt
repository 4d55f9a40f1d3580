-- A list of tokens of C as the grammar sees it: each token by the number of its kind, and an identifier by the rank of
-- the first token of its spelling (ISO/IEC 9899:2024, 6.4). A character constant is an integer constant.
use Rattle.std.specs.Prelude.{ℕ, ◌+◌, ◌≤◌, Bool, false, if◌then◌else◌, List, [], ◌∷◌}
use Rattle.std.specs.Str.{bytes_eq}
use Rattle.model_tokens.specs.declared.tokens.CKind.{CKind}
use Rattle.model_tokens.specs.declared.tokens.CKind.TheVariants as token
use Rattle.model_tokens.specs.declared.tokens.CTok.{CTok}
use Rattle.model_grammar.specs.declared.grammar.Terminal.{Terminal}
use Rattle.model_grammar.specs.Terminals as k

-- the number of the kind; the punctuators stand behind the words
abbrev pub kind_number : CKind → ℕ
kind_number (token.Word n) = n
kind_number (token.Punct n) = k.Volatile + n
kind_number (token.Name spelling) = k.Name
kind_number (token.Integer value) = k.Integer
kind_number (token.Text bytes) = k.StringLiteral

abbrev pub is_spelled : List ℕ → CKind → Bool
is_spelled spelling (token.Name other) = bytes_eq other spelling
is_spelled spelling _ = false

-- the rank of the first identifier of this spelling, where the first token has the given rank
abbrev pub first_rank : List ℕ → ℕ → List CTok → ℕ
first_rank spelling rank [] = rank
first_rank spelling rank (t ∷ ts) = if is_spelled spelling t.kind then rank else first_rank spelling (rank + 1) ts

abbrev pub name_number : List CTok → CKind → ℕ
name_number all (token.Name spelling) = first_rank spelling 0 all
name_number all _ = 0

abbrev pub terminals_from : List CTok → ℕ → List CTok → List Terminal
terminals_from all rank [] = []
terminals_from all rank (t ∷ ts) = record { kind = kind_number t.kind; name = name_number all t.kind; rank = rank } ∷ terminals_from all (rank + 1) ts

abbrev pub terminals_of : List CTok → List Terminal
terminals_of tokens = terminals_from tokens 0 tokens

-- every token has a number of the grammar's vocabulary, of which that of string literals is the last
abbrev pub AreNumbered : List CTok → Type 0
AreNumbered [] = Unit {0}
AreNumbered (t ∷ ts) = (kind_number t.kind ≤ k.StringLiteral) × AreNumbered ts
