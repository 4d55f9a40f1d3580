-- What the bytes of a block read as (ISO/IEC 9899:2024, 6.2.6.1, 6.3.3.1, 6.5.1), and why they don't.
use Rattle.std.specs.Prelude.{ℕ, zero, suc, ◌+◌, ◌-◌, ◌==◌, min, max, nat_lt, nat_le, ℤ, pos, int_le, Bool, true, false, ◌&&◌, ◌||◌, not, List, []}
use Rattle.std.specs.Prelude.{◌∷◌, ◌++◌, Option, Some, None, Result, Ok, Err, if◌then◌else◌, unsigned_abs}
use Rattle.std.specs.List.{list_any}
use Rattle.model_types.specs.declared.numbers.Basic.{Basic}
use Rattle.model_types.specs.declared.numbers.Basic.TheVariants.{Bool as bool, UnsignedChar}
use Rattle.model_types.specs.declared.outcomes.Cause.{Cause}
use Rattle.model_types.specs.declared.outcomes.Cause.TheVariants.{Uninitialised, Dead, Outside, Kind}
use Rattle.model_types.specs.Operations.{convert}
use Rattle.model_runs.specs.Memory.{Block, Scalar, Number, Null, Address, Code, Content, Holds, Zeroes, Cell, Value, Single, StructureValue, Contents, Memory, contents_of}
use Rattle.model_types.specs.Shapes.{Shape, IntegerShape, PointerShape, StructShape, shape_size}

-- the bytes of a cell and those from `offset` on, `size` of them, have one in common
abbrev pub overlaps : (offset size : ℕ) → Cell → Bool
overlaps offset size cell = nat_lt offset (cell.offset + cell.size) && nat_lt cell.offset (offset + size)

abbrev pub holds_scalar : Content → Bool
holds_scalar (Holds scalar) = true
holds_scalar Zeroes = false

-- a byte is zero: one of the zeros of a cell
abbrev pub is_zero_at : List Cell → ℕ → Bool
is_zero_at [] byte = false
is_zero_at (cell ∷ cells) byte = (overlaps byte 1 cell && not (holds_scalar cell.content)) || is_zero_at cells byte

-- so are this many from it on
abbrev pub are_zero_at : List Cell → (offset count : ℕ) → Bool
are_zero_at cells offset zero = true
are_zero_at cells offset (suc count) = is_zero_at cells (offset + count) && are_zero_at cells offset count

-- the scalar that was stored at exactly these bytes
abbrev pub scalar_in : Content → Option Scalar
scalar_in (Holds scalar) = Some scalar
scalar_in Zeroes = None

abbrev pub stored_at : List Cell → (offset size : ℕ) → Option Scalar
stored_at [] offset size = None
stored_at (cell ∷ cells) offset size =
    if (cell.offset == offset) && (cell.size == size) && holds_scalar cell.content then scalar_in cell.content else stored_at cells offset size

-- a stored integer that is loaded is converted to the type of the load, for bool to unsigned char
abbrev pub loaded_type : Basic → Basic
loaded_type bool = UnsignedChar
loaded_type basic = basic

-- a scalar of the kind of a shape, as it is loaded
abbrev pub as_kind : Shape → Scalar → Option Scalar
as_kind (IntegerShape basic) (Number value) = Some (Number (convert (loaded_type basic) value))
as_kind PointerShape Null = Some Null
as_kind PointerShape (Address block offset) = Some (Address block offset)
as_kind PointerShape (Code function) = Some (Code function)
as_kind _ _ = None

-- zero, of a kind
abbrev pub zero_of : Shape → Scalar
zero_of (IntegerShape basic) = Number (pos 0)
zero_of PointerShape = Null
zero_of (StructShape size) = Null

abbrev pub of_kind : Shape → Option Scalar → Option Scalar
of_kind shape None = None
of_kind shape (Some scalar) = as_kind shape scalar

-- a cell of this size and kind; else zero, where all bytes are; else it is undefined: by Kind where some
-- of the bytes hold a scalar, and by Uninitialised where none does
abbrev pub scalar_or : Shape → List Cell → (offset : ℕ) → Option Scalar → Result Scalar Cause
scalar_or shape cells offset (Some scalar) = Ok scalar
scalar_or shape cells offset None =
    if are_zero_at cells offset (shape_size shape) then Ok (zero_of shape)
    else if list_any (λ cell. overlaps offset (shape_size shape) cell && holds_scalar cell.content) cells then Err Kind
    else Err Uninitialised

abbrev pub scalar_at : Shape → List Cell → (offset : ℕ) → Result Scalar Cause
scalar_at shape cells offset = scalar_or shape cells offset (of_kind shape (stored_at cells offset (shape_size shape)))

-- the cell lies whole among these bytes
abbrev pub lies_in : (offset size : ℕ) → Cell → Bool
lies_in offset size cell = nat_le offset cell.offset && nat_le (cell.offset + cell.size) (offset + size)

-- the zeros among these bytes, counted from the first of them
abbrev pub zeros_in : (offset size : ℕ) → Cell → List Cell
zeros_in offset size cell =
    if overlaps offset size cell
    then record {
      offset = max offset cell.offset - offset;
      size = min (offset + size) (cell.offset + cell.size) - max offset cell.offset;
      content = Zeroes;
    } ∷ []
    else []

abbrev pub part_by : Content → (offset size : ℕ) → Cell → List Cell
part_by (Holds scalar) offset size cell = if lies_in offset size cell then record cell { offset = cell.offset - offset } ∷ [] else []
part_by Zeroes offset size cell = zeros_in offset size cell

-- the cells of these bytes, counted from the first of them: scalars that lie whole in them, and zeros
abbrev pub part_of : (offset size : ℕ) → List Cell → List Cell
part_of offset size [] = []
part_of offset size (cell ∷ cells) = part_by cell.content offset size cell ++ part_of offset size cells

abbrev pub as_single : Result Scalar Cause → Result Value Cause
as_single (Ok scalar) = Ok (Single scalar)
as_single (Err cause) = Err cause

-- what is read of cells; of a structure nothing is asked
abbrev pub value_at : Shape → List Cell → (offset : ℕ) → Result Value Cause
value_at (StructShape size) cells offset = Ok (StructureValue (part_of offset size cells))
value_at shape cells offset = as_single (scalar_at shape cells offset)

-- these bytes lie in a block of this size
abbrev pub lies_within : (offset : ℤ) (size block_size : ℕ) → Bool
lies_within offset size block_size = int_le (pos 0) offset && nat_le (unsigned_abs offset + size) block_size

-- the contents of a block that lives and has these bytes
abbrev pub reached : Option Contents → (offset : ℤ) (size : ℕ) → Result Contents Cause
reached None offset size = Err Dead
reached (Some contents) offset size =
    if contents.live then (if lies_within offset size contents.size then Ok contents else Err Outside) else Err Dead

abbrev pub read : Shape → (offset : ℤ) → Result Contents Cause → Result Value Cause
read shape offset (Ok contents) = value_at shape contents.cells (unsigned_abs offset)
read shape offset (Err cause) = Err cause

-- a load of a shape at a byte of a block
abbrev pub load : Memory → Shape → Block → (offset : ℤ) → Result Value Cause
load memory shape block offset = read shape offset (reached (contents_of memory block) offset (shape_size shape))
