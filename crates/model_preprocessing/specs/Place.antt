-- Places (ISO/IEC 9899:2024, 5.1.1.1 and 5.1.1.2): a file, a line and a column of it, and the order of
-- translation.
use Rattle.std.specs.Prelude.{ℕ, ◌+◌, ◌<◌, List, [], ◌∷◌, ◌==◌, if◌then◌else◌}
use Rattle.cake_base.specs.declared.places.Place.{Place}
use Rattle.model_preprocessing.specs.declared.positions.Position.{Position}

-- a place comes before another where its order is smaller
abbrev pub IsBefore : Place → Place → Type 0
IsBefore place other = place.order < other.order

-- the first line and column, both counted from 1
abbrev pub first_position : Position
first_position = record { line = 1; column = 1 }

-- the position behind a byte; a line feed ends a line
abbrev pub behind : Position → ℕ → Position
behind at byte = if byte == 10 then record { line = at.line + 1; column = 1 } else record { line = at.line; column = at.column + 1 }

-- the position behind all these bytes
abbrev pub behind_all : Position → List ℕ → Position
behind_all at [] = at
behind_all at (byte ∷ bytes) = behind_all (behind at byte) bytes

-- the place of a position of the main file, which has the number 0
abbrev pub main_place : Position → (order : ℕ) → Place
main_place at order = record { file = 0; line = at.line; column = at.column; order = order }
