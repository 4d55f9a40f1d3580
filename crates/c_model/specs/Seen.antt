-- What two runs show of the bytes of a block that both have (ISO/IEC 9899:2024, 5.1.2.4, 6.2.6.1).
use Rattle.std.specs.Prelude.{◌≡◌, ℕ, suc, List, [], Option, Some, None}
use Rattle.std.specs.Option.{option_map}
use Rattle.model_runs.specs.Memory.{Scalar, Cell, Contents}
use Rattle.model_runs.specs.Loads.{stored_at, is_zero_at}

-- a scalar that both can name, as it is; any other one, as Other
pub data Seen : Type 0 where
  SeenAs : (scalar : Scalar) → Seen
  Other : Seen

abbrev pub cells_or_none : Option Contents → List Cell
cells_or_none None = []
cells_or_none (Some contents) = contents.cells

-- the same bytes, where scalars are seen so on either side: what is stored at each offset and size, of one
-- byte at least, and which bytes are zero
pub record SameBytes (seen other_seen : Scalar → Seen) (cells others : List Cell) : Type 0 where
  pub stored : (offset size : ℕ) → option_map seen (stored_at cells offset (suc size)) ≡ option_map other_seen (stored_at others offset (suc size))
  pub zero : (offset : ℕ) → is_zero_at cells offset ≡ is_zero_at others offset
