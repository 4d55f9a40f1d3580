-- The bytes of a text as they are read, each with its place in the file (ISO/IEC 9899:2024, 5.1.1.2 phases 1 and 2).
use Rattle.std.specs.Prelude.{ℕ, ◌+◌, Bool, true, false, ◌&&◌, ◌==◌, if◌then◌else◌, List, [], ◌∷◌, map}
use Rattle.model_tokens.specs.declared.steps.Cell.{Cell}

-- each byte with its line and its column, from a place on; a line feed ends its line
abbrev pub placed : ℕ → ℕ → List ℕ → List Cell
placed line column [] = []
placed line column (b ∷ text) =
    record { byte = b; line = line; column = column } ∷ (if b == 10 then placed (line + 1) 1 text else placed line (column + 1) text)

-- the bytes alone
abbrev pub bytes : List Cell → List ℕ
bytes = map (λ c. c.byte)

-- a line ends at a line feed; the end of the text ends its last line too
abbrev pub ends_line : List ℕ → Bool
ends_line [] = true
ends_line (b ∷ text) = b == 10

-- without each carriage return that stands directly before the end of its line
abbrev pub without_returns : List Cell → List Cell
without_returns [] = []
without_returns (c ∷ cells) = if c.byte == 13 && ends_line (bytes cells) then without_returns cells else c ∷ without_returns cells

-- without each backslash that stands directly before the end of its line, and without that line feed; the flag says that the
-- first byte is such a line feed
abbrev pub joined_from : Bool → List Cell → List Cell
joined_from flag [] = []
joined_from true (c ∷ cells) = joined_from false cells
joined_from false (c ∷ cells) = if c.byte == 92 && ends_line (bytes cells) then joined_from true cells else c ∷ joined_from false cells

-- the text as it is read, from a place of its file on: carriage returns dropped, then lines joined
abbrev pub cells_from : ℕ → ℕ → List ℕ → List Cell
cells_from line column text = joined_from false (without_returns (placed line column text))
