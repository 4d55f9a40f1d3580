-- Spellings with their numbers.
use Rattle.std.specs.Prelude.{ℕ, List, [], ◌∷◌, Option, Some, None, if◌then◌else◌}
use Rattle.std.specs.Str.{bytes_eq}

-- the number beside a spelling
abbrev pub number_under : List (List ℕ × ℕ) → List ℕ → Option ℕ
number_under [] spelling = None
number_under (entry ∷ table) spelling = if bytes_eq entry.0 spelling then Some entry.1 else number_under table spelling
