-- The sorts of tokens of C that the reader of a unit tells apart.
use Rattle.std.specs.Prelude.{ℕ, ℤ, pos, negsuc, ◌==◌, if◌then◌else◌, List, codes}
use Rattle.std.specs.Str.{bytes_eq}
use Rattle.model_types.specs.declared.numbers.Basic.{Basic}
use Rattle.model_types.specs.declared.numbers.Basic.TheVariants.{Bool as bool, Char, SignedChar, UnsignedChar, Short, UnsignedShort, Int, Unsigned, Long, UnsignedLong, LongLong, UnsignedLongLong}
use Rattle.model_types.specs.declared.numbers.BinOp.{BinOp}
use Rattle.model_types.specs.declared.numbers.BinOp.TheVariants.{Mul, Add, Sub}
use Rattle.model_tokens.specs.declared.tokens.CKind.{CKind}
use Rattle.model_tokens.specs.declared.tokens.CKind.TheVariants.{Word, Name, Integer, Text, Punct}

pub data Sort : Type 0 where
  IntWord : Sort
  MainName : Sort
  OpenParenthesis : Sort
  VoidWord : Sort
  CloseParenthesis : Sort
  OpenBrace : Sort
  ReturnWord : Sort
  Constant : (number : ℕ) → Sort
  Sign : (op : BinOp) → Sort
  Semicolon : Sort
  CloseBrace : Sort
  Other : Sort

abbrev pub word_sort : ℕ → Sort
word_sort number = if number == 14 then IntWord else (if number == 11 then VoidWord else (if number == 39 then ReturnWord else Other))

abbrev pub name_sort : List ℕ → Sort
name_sort name = if bytes_eq name (codes "main") then MainName else Other

-- a constant of type int that isn't negative
abbrev pub int_sort : ℤ → Sort
int_sort (pos number) = Constant number
int_sort (negsuc number) = Other

abbrev pub constant_sort : Basic → ℤ → Sort
constant_sort Int value = int_sort value
constant_sort bool value = Other
constant_sort Char value = Other
constant_sort SignedChar value = Other
constant_sort UnsignedChar value = Other
constant_sort Short value = Other
constant_sort UnsignedShort value = Other
constant_sort Unsigned value = Other
constant_sort Long value = Other
constant_sort UnsignedLong value = Other
constant_sort LongLong value = Other
constant_sort UnsignedLongLong value = Other

abbrev pub sign_sort : ℕ → Sort
sign_sort number = if number == 11 then Sign Mul else (if number == 38 then Sign Add else (if number == 39 then Sign Sub else Other))

abbrev pub punctuator_sort : ℕ → Sort
punctuator_sort number =
    if number == 3 then OpenParenthesis
    else (if number == 4 then CloseParenthesis
    else (if number == 7 then OpenBrace
    else (if number == 8 then CloseBrace
    else (if number == 2 then Semicolon else sign_sort number))))

abbrev pub sort_of : CKind → Sort
sort_of (Word number) = word_sort number
sort_of (Name name) = name_sort name
sort_of (Integer constant) = constant_sort constant.basic constant.value
sort_of (Text bytes) = Other
sort_of (Punct number) = punctuator_sort number
