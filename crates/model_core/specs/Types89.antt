-- The types of a C89 program (ISO/IEC 9899:1990, 6.1.2.5): bases, pointers, arrays and functions, with the
-- const that counts behind pointers.
use Rattle.std.specs.Prelude.{ℕ, Bool, false, List, Option, Some, None}
use Rattle.model_types.specs.declared.numbers.Basic.{Basic}
use Rattle.model_types.specs.declared.numbers.Basic.TheVariants as basic

pub data Base : Type 0 where
  Void : Base
  Char : Base
  SignedChar : Base
  UnsignedChar : Base
  Short : Base
  UnsignedShort : Base
  Int : Base
  UnsignedInt : Base
  Long : Base
  UnsignedLong : Base
  Struct : (name : List ℕ) → Base

mutual
  -- a const base or pointer is one behind a pointer
  pub data Type89 : Type 0 where
    Based : (is_const : Bool) (base : Base) → Type89
    Pointer : (is_const : Bool) (to : Type89) → Type89
    Array : (count : Option ℕ) (of : Type89) → Type89
    Function : (result : Type89) (parameters : Types89) (is_variadic : Bool) → Type89

  pub data Types89 : Type 0 where
    no_types : Types89
    more_types : (first : Type89) (others : Types89) → Types89

-- the integer type of a base
abbrev pub integer_of : Base → Option Basic
integer_of Void = None
integer_of Char = Some basic.Char
integer_of SignedChar = Some basic.SignedChar
integer_of UnsignedChar = Some basic.UnsignedChar
integer_of Short = Some basic.Short
integer_of UnsignedShort = Some basic.UnsignedShort
integer_of Int = Some basic.Int
integer_of UnsignedInt = Some basic.Unsigned
integer_of Long = Some basic.Long
integer_of UnsignedLong = Some basic.UnsignedLong
integer_of (Struct name) = None

-- the base of an integer type: there is no long long, and bool is written as unsigned char
abbrev pub base_of : Basic → Base
base_of basic.Bool = UnsignedChar
base_of basic.Char = Char
base_of basic.SignedChar = SignedChar
base_of basic.UnsignedChar = UnsignedChar
base_of basic.Short = Short
base_of basic.UnsignedShort = UnsignedShort
base_of basic.Int = Int
base_of basic.Unsigned = UnsignedInt
base_of basic.Long = Long
base_of basic.UnsignedLong = UnsignedLong
base_of basic.LongLong = Long
base_of basic.UnsignedLongLong = UnsignedLong

abbrev pub int_type : Type89
int_type = Based false Int
