-- Integer constants, their values and their types (ISO/IEC 9899:2024, 6.4.4.2).
use Rattle.std.specs.Prelude.{◌≡◌, ℕ, Bool, true, false, not, ◌&&◌, ◌||◌, ◌==◌, if◌then◌else◌, List, [], ◌∷◌, take, drop, slice_index, Option, Some, None, Result, Ok, Err, ℤ, pos, refl}
use Rattle.std.specs.List.{prefix_len}
use Rattle.model_tokens.specs.declared.constants.Base.{Base}
use Rattle.model_tokens.specs.declared.constants.Base.TheVariants.{Decimal, Octal, Hexadecimal, Binary}
use Rattle.model_tokens.specs.declared.constants.Suffix.{Suffix}
use Rattle.model_tokens.specs.declared.constants.Suffix.TheVariants as suffix
use Rattle.model_types.specs.declared.numbers.Basic.{Basic}
use Rattle.model_types.specs.declared.numbers.Basic.TheVariants.{Int, Unsigned, Long, UnsignedLong, LongLong, UnsignedLongLong}
use Rattle.model_types.specs.declared.numbers.Const.{Const}
use Rattle.model_tokens.specs.declared.tokens.TokenRule.{TokenRule}
use Rattle.model_tokens.specs.declared.tokens.TokenRule.TheVariants.{MalformedNumber, FitsNoType}
use Rattle.model_tokens.specs.Digits.{are_digits, value_from}
use Rattle.model_types.specs.Operations.{fits}

abbrev pub is_u : ℕ → Bool
is_u b = b == 117 || b == 85

abbrev pub is_l : ℕ → Bool
is_l b = b == 108 || b == 76

-- the suffix that a text is: letters of either case, in either order, the two of LL of one case
abbrev pub suffix_of : List ℕ → Option Suffix
suffix_of [] = Some suffix.Plain
suffix_of (a ∷ []) = if is_u a then Some suffix.U else (if is_l a then Some suffix.L else None)
suffix_of (a ∷ b ∷ []) =
    if (is_u a && is_l b) || (is_l a && is_u b) then Some suffix.UL else (if is_l a && a == b then Some suffix.LL else None)
suffix_of (a ∷ b ∷ c ∷ []) = if (is_u a && (is_l b && b == c)) || (is_l a && (a == b && is_u c)) then Some suffix.ULL else None
suffix_of (a ∷ b ∷ c ∷ d ∷ text) = None

-- the types of which a constant has the first that fits
abbrev pub types_of : Base → Suffix → List Basic
types_of Decimal suffix.Plain = Int ∷ Long ∷ LongLong ∷ []
types_of Decimal suffix.L = Long ∷ LongLong ∷ []
types_of Decimal suffix.LL = LongLong ∷ []
types_of base suffix.Plain = Int ∷ Unsigned ∷ Long ∷ UnsignedLong ∷ LongLong ∷ UnsignedLongLong ∷ []
types_of base suffix.L = Long ∷ UnsignedLong ∷ LongLong ∷ UnsignedLongLong ∷ []
types_of base suffix.LL = LongLong ∷ UnsignedLongLong ∷ []
types_of base suffix.U = Unsigned ∷ UnsignedLong ∷ UnsignedLongLong ∷ []
types_of base suffix.UL = UnsignedLong ∷ UnsignedLongLong ∷ []
types_of base suffix.ULL = UnsignedLongLong ∷ []

-- a value of a type, where it fits
abbrev pub constant_if : (t : Basic) (value : ℤ) (does_fit : Bool) → fits t value ≡ does_fit → Option Const
constant_if t value false is = None
constant_if t value true is = Some (record { value = value; basic = t; in_range = is })

abbrev pub constant_in : Basic → ℤ → Option Const
constant_in t value = constant_if t value (fits t value) refl

-- a constant, or else another
abbrev pub or_else : Option Const → Option Const → Option Const
or_else None other = other
or_else (Some constant) other = Some constant

-- the value in the first type that it fits
abbrev pub first_fitting : List Basic → ℤ → Option Const
first_fitting [] value = None
first_fitting (t ∷ types) value = or_else (constant_in t value) (first_fitting types value)

-- how the constant is written, by its first bytes
abbrev pub base_of : List ℕ → Base
base_of text =
    if slice_index text 0 == 48
    then (if slice_index text 1 == 120 || slice_index text 1 == 88 then Hexadecimal
    else (if slice_index text 1 == 98 || slice_index text 1 == 66 then Binary else Octal))
    else Decimal

abbrev pub radix : Base → ℕ
radix Decimal = 10
radix Octal = 8
radix Hexadecimal = 16
radix Binary = 2

-- the length of 0x or 0b; the 0 of an octal constant is one of its digits
abbrev pub base_prefix : Base → ℕ
base_prefix Decimal = 0
base_prefix Octal = 0
base_prefix Hexadecimal = 2
base_prefix Binary = 2

-- the bytes before the first letter of a suffix
abbrev pub is_before_suffix : ℕ → Bool
is_before_suffix b = not (is_u b || is_l b)

-- the constant, or that its value fits no type
abbrev pub fitting : Option Const → Result Const TokenRule
fitting None = Err FitsNoType
fitting (Some constant) = Ok constant

-- the constant of these digits and this suffix
abbrev pub constant_of : Base → List ℕ → Option Suffix → Result Const TokenRule
constant_of base digits None = Err MalformedNumber
constant_of base digits (Some suffix) =
    if are_digits (radix base) digits then fitting (first_fitting (types_of base suffix) (pos (value_from (radix base) 0 digits))) else Err MalformedNumber

-- the constant that a text is
abbrev pub integer_constant : List ℕ → Result Const TokenRule
integer_constant text =
    let base = base_of text in
    let body = drop (base_prefix base) text in
    let n = prefix_len is_before_suffix body in
    constant_of base (take n body) (suffix_of (drop n body))
