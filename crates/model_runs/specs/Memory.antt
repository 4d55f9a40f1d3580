-- What memory is made of (ISO/IEC 9899:2024, 3.16, 6.2.4, 6.2.6): blocks with their marks, cells in them,
-- and values.
use Rattle.std.specs.Prelude.{ℕ, ◌==◌, ℤ, Bool, true, false, ◌&&◌, List, [], ◌∷◌, Option, Some, None, if◌then◌else◌}
use Rattle.std.specs.Str.{bytes_eq}

-- what tells an object or function of a program from its others: a number in a unit, a name in a text
pub data Identity : Type 0 where
  Numbered : (id : ℕ) → Identity
  Named : (name : List ℕ) → Identity

-- a block: an object of static storage; one of automatic storage, of a call; an allocated one; what a
-- handle stands for, by its number, or by the object of the outside that holds it; an object of the
-- outside, by its name; one that the entry was given
pub data Block : Type 0 where
  Global : (id : Identity) → Block
  Local : (call : ℕ) (id : Identity) → Block
  Heap : (number : ℕ) → Block
  Handle : (number : ℕ) → Block
  HandleOf : (name : List ℕ) → Block
  Outside : (name : List ℕ) → Block
  Given : (number : ℕ) → Block

-- a scalar: an integer, a null pointer, a pointer to a byte of a block or past it, or to a function
pub data Scalar : Type 0 where
  Number : (value : ℤ) → Scalar
  Null : Scalar
  Address : (block : Block) (offset : ℤ) → Scalar
  Code : (function : Identity) → Scalar

-- what some bytes hold: a scalar that was stored there, or zero, which reads as 0 or null of any size
pub data Content : Type 0 where
  Holds : (scalar : Scalar) → Content
  Zeroes : Content

-- what is known of some bytes of a block; of bytes without a cell nothing is
pub record Cell : Type 0 where
  pub offset : ℕ
  pub size : ℕ
  pub content : Content

-- a value of an expression or a call: none, where the type is void or a function returned none; a scalar;
-- a structure, by its cells
pub data Value : Type 0 where
  Missing : Value
  Single : (scalar : Scalar) → Value
  StructureValue : (cells : List Cell) → Value

-- what a block is: its size in bytes, its marks, and its cells, none of which overlap
pub record Contents : Type 0 where
  pub size : ℕ
  pub live : Bool
  pub read_only : Bool
  pub owned : Bool
  pub released : Bool
  pub cells : List Cell

-- the blocks that there are or were
abbrev pub Memory : Type 0
Memory = List (Block × Contents)

abbrev pub no_blocks : Memory
no_blocks = []

abbrev pub same_identity : Identity → Identity → Bool
same_identity (Numbered i) (Numbered j) = i == j
same_identity (Named x) (Named y) = bytes_eq x y
same_identity _ _ = false

abbrev pub same_block : Block → Block → Bool
same_block (Global i) (Global j) = same_identity i j
same_block (Local c i) (Local d j) = (c == d) && same_identity i j
same_block (Heap m) (Heap n) = m == n
same_block (Handle m) (Handle n) = m == n
same_block (HandleOf x) (HandleOf y) = bytes_eq x y
same_block (Outside x) (Outside y) = bytes_eq x y
same_block (Given m) (Given n) = m == n
same_block _ _ = false

-- the contents of a block
abbrev pub contents_of : Memory → Block → Option Contents
contents_of [] block = None
contents_of (entry ∷ memory) block = if same_block entry.0 block then Some entry.1 else contents_of memory block

-- memory in which a block has these contents
abbrev pub with_block : Memory → Block → Contents → Memory
with_block [] block contents = (block, contents) ∷ []
with_block (entry ∷ memory) block contents =
    if same_block entry.0 block then (block, contents) ∷ memory else entry ∷ with_block memory block contents

-- a live block of a size, of which nothing is known
abbrev pub fresh : (size : ℕ) → Contents
fresh size = record { size = size; live = true; read_only = false; owned = false; released = false; cells = [] }

-- a live block of zeros
abbrev pub zeroed : (size : ℕ) → Contents
zeroed size = record (fresh size) { cells = record { offset = 0; size = size; content = Zeroes } ∷ [] }
