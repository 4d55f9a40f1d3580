-- The values of the integer types and the operations on them (ISO/IEC 9899:2024, 6.2.5, 6.2.6.2,
-- 6.3.2.2, 6.3.2.3, 6.5.1 to 6.5.13), in the LP64 profile.
use Rattle.std.specs.Prelude.{ℕ, ◌-◌, ◌^◌, ℤ, pos, neg_ℤ, Bool, true, false, ◌&&◌, not, int_le, int_lt, int_div, int_rem, unsigned_abs, bit_and, bit_or, bit_xor, if◌then◌else◌, ◌+ℤ◌, ◌-ℤ◌, ◌*ℤ◌, Result, Ok, Err}
use Rattle.std.specs.Int.{int_div_euclid, int_rem_euclid}
use Rattle.std.specs.Ordering.{int_eq}
use Rattle.model_types.specs.declared.numbers.Basic.{Basic}
use Rattle.model_types.specs.declared.numbers.Basic.TheVariants.{Bool as bool, Char, SignedChar, UnsignedChar, Short, UnsignedShort, Int, Unsigned, Long, UnsignedLong, LongLong, UnsignedLongLong}
use Rattle.model_types.specs.declared.numbers.BinOp.{BinOp}
use Rattle.model_types.specs.declared.numbers.BinOp.TheVariants.{Mul, Div, Rem, Add, Sub, ShiftLeft, ShiftRight, Less, Greater, LessEqual, GreaterEqual, Equal, NotEqual, BitAnd, BitXor, BitOr}
use Rattle.model_types.specs.declared.outcomes.Cause.{Cause}
use Rattle.model_types.specs.declared.outcomes.Cause.TheVariants.{Overflow, ZeroDivisor, BadShift}
use Rattle.model_types.specs.declared.operators.UnaryOp.{UnaryOp}
use Rattle.model_types.specs.declared.operators.UnaryOp.TheVariants.{Minus, Complement, Not}

-- the width of a type: the number of bits of its values, the sign's among them
abbrev pub width : Basic → ℕ
width bool = 1
width Char = 8
width SignedChar = 8
width UnsignedChar = 8
width Short = 16
width UnsignedShort = 16
width Int = 32
width Unsigned = 32
width Long = 64
width UnsignedLong = 64
width LongLong = 64
width UnsignedLongLong = 64

-- the type has negative values
abbrev pub is_signed : Basic → Bool
is_signed bool = false
is_signed Char = true
is_signed SignedChar = true
is_signed UnsignedChar = false
is_signed Short = true
is_signed UnsignedShort = false
is_signed Int = true
is_signed Unsigned = false
is_signed Long = true
is_signed UnsignedLong = false
is_signed LongLong = true
is_signed UnsignedLongLong = false

-- the least value of the type
abbrev pub lowest : Basic → ℤ
lowest t = if is_signed t then neg_ℤ (pos (2 ^ (width t - 1))) else pos 0

-- the greatest value of the type
abbrev pub highest : Basic → ℤ
highest t = if is_signed t then pos (2 ^ (width t - 1) - 1) else pos (2 ^ width t - 1)

-- the value is one of the type's
abbrev pub fits : Basic → ℤ → Bool
fits t value = int_le (lowest t) value && int_le value (highest t)

-- the low bits of a number, as many as the width of the type, in two's complement
abbrev pub bits_of : Basic → ℤ → ℕ
bits_of t value = unsigned_abs (int_rem_euclid value (pos (2 ^ width t)))

-- the value of the type that has these bits
abbrev pub value_of : Basic → ℕ → ℤ
value_of t bits = if int_le (pos bits) (highest t) then pos bits else pos bits -ℤ pos (2 ^ width t)

-- the value of the type that differs from this one by a multiple of 2 ^ width
abbrev pub wrapped : Basic → ℤ → ℤ
wrapped t value = value_of t (bits_of t value)

-- a truth value as a number
abbrev pub truth : Bool → ℤ
truth true = pos 1
truth false = pos 0

-- a value converted to a type: to `bool` it is 0 where it is 0 and else 1, to another type it wraps
abbrev pub convert : Basic → ℤ → ℤ
convert bool value = truth (not (int_eq value (pos 0)))
convert t value = wrapped t value

-- a result that the type has to have
abbrev pub within : Basic → ℤ → Result ℤ Cause
within t value = if fits t value then Ok value else Err Overflow

-- the result of an operation in a type: unsigned ones wrap, signed ones are undefined out of range
abbrev pub result_in : Basic → ℤ → Result ℤ Cause
result_in t value = if is_signed t then within t value else Ok (wrapped t value)

-- an operation on the bits of two values
abbrev pub on_bits : (ℕ → ℕ → ℕ) → Basic → ℤ → ℤ → ℤ
on_bits f t left right = value_of t (f (bits_of t left) (bits_of t right))

-- a quotient, or what it is undefined by: a divisor 0, or a quotient out of range
abbrev pub divided : Basic → ℤ → ℤ → Result ℤ Cause
divided t left right = if int_eq right (pos 0) then Err ZeroDivisor else within t (int_div left right)

-- a remainder, with the sign of the left operand; it is undefined where the quotient is
abbrev pub remainder : Basic → ℤ → ℤ → Result ℤ Cause
remainder t left right =
    if int_eq right (pos 0) then Err ZeroDivisor
    else if fits t (int_div left right) then Ok (int_rem left right) else Err Overflow

-- the count of a shift lies from 0 to below the width
abbrev pub is_shift_count : Basic → ℤ → Bool
is_shift_count t count = int_le (pos 0) count && int_lt count (pos (width t))

-- a power of two, to a number that isn't negative
abbrev pub power_of_two : ℤ → ℤ
power_of_two count = pos (2 ^ unsigned_abs count)

-- a left shift: unsigned ones wrap; a signed one is undefined at a negative value or out of range
abbrev pub shifted_left : Basic → ℤ → ℤ → Result ℤ Cause
shifted_left t left count =
    if is_signed t
    then (if int_le (pos 0) left && fits t (left *ℤ power_of_two count) then Ok (left *ℤ power_of_two count) else Err BadShift)
    else Ok (wrapped t (left *ℤ power_of_two count))

-- a binary operator on two values of a type; of a shift the type is the left operand's, and the
-- right operand is a value alone
abbrev pub operate : BinOp → Basic → ℤ → ℤ → Result ℤ Cause
operate Mul t left right = result_in t (left *ℤ right)
operate Div t left right = divided t left right
operate Rem t left right = remainder t left right
operate Add t left right = result_in t (left +ℤ right)
operate Sub t left right = result_in t (left -ℤ right)
operate ShiftLeft t left right = if is_shift_count t right then shifted_left t left right else Err BadShift
operate ShiftRight t left right = if is_shift_count t right then Ok (int_div_euclid left (power_of_two right)) else Err BadShift
operate Less t left right = Ok (truth (int_lt left right))
operate Greater t left right = Ok (truth (int_lt right left))
operate LessEqual t left right = Ok (truth (int_le left right))
operate GreaterEqual t left right = Ok (truth (int_le right left))
operate Equal t left right = Ok (truth (int_eq left right))
operate NotEqual t left right = Ok (truth (not (int_eq left right)))
operate BitAnd t left right = Ok (on_bits bit_and t left right)
operate BitXor t left right = Ok (on_bits bit_xor t left right)
operate BitOr t left right = Ok (on_bits bit_or t left right)

-- a unary operator on an integer of a type
abbrev pub on_number : UnaryOp → Basic → ℤ → Result ℤ Cause
on_number Minus basic value = result_in basic (pos 0 -ℤ value)
on_number Complement basic value = Ok (wrapped basic (pos 0 -ℤ value -ℤ pos 1))
on_number Not basic value = Ok (truth (int_eq value (pos 0)))
