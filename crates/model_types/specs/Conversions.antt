-- The types in which operations are done: promotions and usual conversions (ISO/IEC 9899:2024,
-- 6.3.2.1, 6.3.2.8), and an operation on constants.
use Rattle.std.specs.Prelude.{ℕ, ℤ, Bool, true, false, nat_le, nat_lt, if◌then◌else◌, Result}
use Rattle.model_types.specs.declared.numbers.Basic.{Basic}
use Rattle.model_types.specs.declared.numbers.Basic.TheVariants.{Bool as bool, Char, SignedChar, UnsignedChar, Short, UnsignedShort, Int, Unsigned, Long, UnsignedLong, LongLong, UnsignedLongLong}
use Rattle.model_types.specs.declared.numbers.Const.{Const}
use Rattle.model_types.specs.declared.numbers.BinOp.{BinOp}
use Rattle.model_types.specs.declared.numbers.BinOp.TheVariants.{ShiftLeft, ShiftRight, Less, Greater, LessEqual, GreaterEqual, Equal, NotEqual}
use Rattle.model_types.specs.declared.outcomes.Cause.{Cause}
use Rattle.model_types.specs.Operations.{width, is_signed, convert, operate}

-- the conversion rank: that of an unsigned type is that of its signed one
abbrev pub rank : Basic → ℕ
rank bool = 0
rank Char = 1
rank SignedChar = 1
rank UnsignedChar = 1
rank Short = 2
rank UnsignedShort = 2
rank Int = 3
rank Unsigned = 3
rank Long = 4
rank UnsignedLong = 4
rank LongLong = 5
rank UnsignedLongLong = 5

-- the promoted type: int for each type of lesser rank, since an int has all of their values
abbrev pub promoted : Basic → Basic
promoted t = if nat_lt (rank t) (rank Int) then Int else t

-- the unsigned type that corresponds to a type
abbrev pub unsigned_of : Basic → Basic
unsigned_of bool = bool
unsigned_of Char = UnsignedChar
unsigned_of SignedChar = UnsignedChar
unsigned_of UnsignedChar = UnsignedChar
unsigned_of Short = UnsignedShort
unsigned_of UnsignedShort = UnsignedShort
unsigned_of Int = Unsigned
unsigned_of Unsigned = Unsigned
unsigned_of Long = UnsignedLong
unsigned_of UnsignedLong = UnsignedLong
unsigned_of LongLong = UnsignedLongLong
unsigned_of UnsignedLongLong = UnsignedLongLong

-- of two types that are both signed or both unsigned, the one of greater rank
abbrev pub greater_of : Basic → Basic → Basic
greater_of s t = if nat_lt (rank s) (rank t) then t else s

-- of a signed and an unsigned type: the unsigned one where its rank isn't less, else the signed one
-- where it has all values of the other, else the unsigned type of the signed one's rank
abbrev pub mixed_of : (signed unsigned : Basic) → Basic
mixed_of s u =
    if nat_le (rank s) (rank u) then u
    else if nat_lt (width u) (width s) then s else unsigned_of s

-- the common type of two promoted types
abbrev pub common_promoted : Basic → Basic → Basic
common_promoted s t =
    if is_signed s
    then (if is_signed t then greater_of s t else mixed_of s t)
    else (if is_signed t then mixed_of t s else greater_of s t)

-- the usual conversions: the common type of the promoted operands
abbrev pub common : Basic → Basic → Basic
common s t = common_promoted (promoted s) (promoted t)

abbrev pub is_shift : BinOp → Bool
is_shift ShiftLeft = true
is_shift ShiftRight = true
is_shift _ = false

abbrev pub is_comparison : BinOp → Bool
is_comparison Less = true
is_comparison Greater = true
is_comparison LessEqual = true
is_comparison GreaterEqual = true
is_comparison Equal = true
is_comparison NotEqual = true
is_comparison _ = false

-- the type in which an operation is done: a shift's is that of its promoted left operand
abbrev pub operand_type : BinOp → Basic → Basic → Basic
operand_type op left right = if is_shift op then promoted left else common left right

-- the type of the result: a comparison gives int
abbrev pub result_type : BinOp → Basic → Basic → Basic
result_type op left right = if is_comparison op then Int else operand_type op left right

-- an operation in a type, to which the operands are converted, but for a shift's right one
abbrev pub converted_operation : BinOp → Basic → ℤ → ℤ → Result ℤ Cause
converted_operation op t left right = operate op t (convert t left) (if is_shift op then right else convert t right)

-- the value of an operation on constants
abbrev pub calculated : BinOp → Const → Const → Result ℤ Cause
calculated op left right = converted_operation op (operand_type op left.basic right.basic) left.value right.value
