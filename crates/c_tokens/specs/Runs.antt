-- Bytes that are read as they stand.
use Rattle.std.specs.Prelude.{ℕ, Bool, true, not, ◌&&◌, ◌||◌, ◌==◌, List, [], ◌∷◌}

-- no line feed, carriage return or backslash
abbrev pub is_plain : ℕ → Bool
is_plain b = not (b == 10 || (b == 13 || b == 92))

abbrev pub all_plain : List ℕ → Bool
all_plain [] = true
all_plain (b ∷ text) = is_plain b && all_plain text
