-- What becomes of a block where a value is stored in it (ISO/IEC 9899:2024, 6.2.6.1, 6.5.17.1).
use Rattle.std.specs.Prelude.{ℕ, ◌+◌, ◌-◌, nat_lt, ℤ, List, [], ◌∷◌, ◌++◌, map, Result, Ok, Err, if◌then◌else◌, unsigned_abs}
use Rattle.model_types.specs.declared.outcomes.Cause.{Cause}
use Rattle.model_types.specs.declared.outcomes.Cause.TheVariants.{ReadOnly}
use Rattle.model_runs.specs.Memory.{Block, Content, Holds, Zeroes, Cell, Value, Missing, Single, StructureValue, Contents, Memory, contents_of, with_block}
use Rattle.model_types.specs.Shapes.{Shape, shape_size}
use Rattle.model_runs.specs.Loads.{overlaps, reached}

-- zeros from one byte to before another
abbrev pub zeros_between : (from to : ℕ) → List Cell
zeros_between from to = if nat_lt from to then record { offset = from; size = to - from; content = Zeroes } ∷ [] else []

-- the cells that are left of one that these bytes overlap
abbrev pub left_of_cell : Content → (offset size : ℕ) → Cell → List Cell
left_of_cell (Holds scalar) offset size cell = []
left_of_cell Zeroes offset size cell = zeros_between cell.offset offset ++ zeros_between (offset + size) (cell.offset + cell.size)

-- the cells that are left where these bytes are written: a scalar that they overlap is gone whole
abbrev pub left_of : (offset size : ℕ) → List Cell → List Cell
left_of offset size [] = []
left_of offset size (cell ∷ cells) =
    (if overlaps offset size cell then left_of_cell cell.content offset size cell else cell ∷ []) ++ left_of offset size cells

-- a cell that much further on
abbrev pub moved_by : ℕ → Cell → Cell
moved_by offset cell = record cell { offset = offset + cell.offset }

-- the cells of a value of this size at an offset
abbrev pub cells_of : (offset size : ℕ) → Value → List Cell
cells_of offset size Missing = []
cells_of offset size (Single scalar) = record { offset = offset; size = size; content = Holds scalar } ∷ []
cells_of offset size (StructureValue cells) = map (moved_by offset) cells

-- contents in which these bytes hold a value
abbrev pub with_value : Contents → (offset size : ℕ) → Value → Contents
with_value contents offset size value = record contents { cells = left_of offset size contents.cells ++ cells_of offset size value }

abbrev pub written : Memory → Shape → Block → (offset : ℤ) → Value → Result Contents Cause → Result Memory Cause
written memory shape block offset value (Err cause) = Err cause
written memory shape block offset value (Ok contents) =
    if contents.read_only then Err ReadOnly
    else Ok (with_block memory block (with_value contents (unsigned_abs offset) (shape_size shape) value))

-- a store of a value of a shape at a byte of a block
abbrev pub store : Memory → Shape → Block → (offset : ℤ) → Value → Result Memory Cause
store memory shape block offset value = written memory shape block offset value (reached (contents_of memory block) offset (shape_size shape))
