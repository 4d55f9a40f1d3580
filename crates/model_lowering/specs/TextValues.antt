-- Values in a C89 text: constants of each type, casts where a type differs, and comparison with zero (ISO/IEC 9899:1990,
-- 6.1.3, 6.2, 6.3).
use Rattle.std.specs.Prelude.{ℕ, nat_eq, ℤ, pos, negsuc, suc, Bool, true, false, ◌&&◌, ◌||◌, Option, Some, None, if◌then◌else◌}
use Rattle.model_types.specs.declared.numbers.Basic.{Basic}
use Rattle.model_types.specs.declared.numbers.Basic.TheVariants as basic
use Rattle.model_types.specs.declared.numbers.BinOp.TheVariants.{Sub, NotEqual}
use Rattle.model_types.specs.Conversions.{promoted}
use Rattle.model_types.specs.Compatible.{same_bool}
use Rattle.model_types.specs.Types.{CType, typed, Form, Void, Integer, Enum, Pointer, Array, Struct, Function, Types, no_types, more_types}
use Rattle.model_core.specs.Types89 as written
use Rattle.model_core.specs.Types89.{Type89, Types89, base_of}
use Rattle.model_core.specs.Program89 as text
use Rattle.model_c89.specs.Compatible89.{same_base}
use Rattle.model_c89.specs.TargetTypes.{basic_type}
use Rattle.model_c89.specs.Written89.{greatest}
use Rattle.c_model.specs.WrittenType.{StructNames, written_value}

-- ---- the same type

abbrev pub same_count : Option ℕ → Option ℕ → Bool
same_count None None = true
same_count (Some count) (Some other) = nat_eq count other
same_count count other = false

abbrev mutual
  pub same_type : Type89 → Type89 → Bool
  same_type (written.Based c a) (written.Based d b) = same_bool c d && same_base a b
  same_type (written.Pointer c t) (written.Pointer d u) = same_bool c d && same_type t u
  same_type (written.Array m t) (written.Array n u) = same_count m n && same_type t u
  same_type (written.Function t ps v) (written.Function u qs w) = same_type t u && same_types ps qs && same_bool v w
  same_type _ _ = false

  pub same_types : Types89 → Types89 → Bool
  same_types written.no_types written.no_types = true
  same_types (written.more_types t ts) (written.more_types u us) = same_type t u && same_types ts us
  same_types _ _ = false

-- a value of one type as one of another: nothing is written where they are the same
abbrev pub as_type : (have want : Type89) → text.Expr → text.Expr
as_type have want e = if same_type have want then e else text.Cast want e

-- ---- constants

abbrev pub number : (n : ℕ) → text.Expr
number n = text.Constant n text.Plain

-- the letters behind a constant of a promoted type
abbrev pub letters : Basic → text.Suffix
letters basic.Unsigned = text.U
letters basic.Long = text.L
letters basic.LongLong = text.L
letters basic.UnsignedLong = text.UL
letters basic.UnsignedLongLong = text.UL
letters _ = text.Plain

-- the least number of a type has no constant: it is one less than the least that has
abbrev pub negative : text.Suffix → (behind : ℕ) → text.Expr
negative suffix behind =
    if nat_eq behind (greatest suffix)
    then text.Binary Sub (text.Unary text.Minus (text.Constant behind suffix)) (text.Constant 1 suffix)
    else text.Unary text.Minus (text.Constant (suc behind) suffix)

abbrev pub signed : text.Suffix → ℤ → text.Expr
signed suffix (pos n) = text.Constant n suffix
signed suffix (negsuc n) = negative suffix n

-- the type that a value of an integer type has in an operation
abbrev pub promoted_type : Basic → Type89
promoted_type basic = basic_type (promoted basic)

-- a number of an integer type; types below int have no constants
abbrev pub integer : Basic → ℤ → text.Expr
integer basic value = as_type (promoted_type basic) (basic_type basic) (signed (letters basic) value)

-- a constant of a core: of a pointer type it is null
abbrev pub constant : StructNames → ℤ → CType → text.Expr
constant names value (typed (Integer basic) quals) = integer basic value
constant names value (typed (Enum basic order) quals) = integer basic value
constant names value type = text.Cast (written_value names type) (number 0)

-- ---- conversions

-- 1 where a value isn't zero, and else 0, as bool is written
abbrev pub truth : text.Expr → text.Expr
truth e = text.Cast (basic_type basic.Bool) (text.Binary NotEqual e (number 0))

abbrev pub is_integer : CType → Bool
is_integer (typed (Integer basic) quals) = true
is_integer (typed (Enum basic order) quals) = true
is_integer type = false

-- an integer that becomes a pointer is a null pointer constant
abbrev pub pointer_of : (from_integer : Bool) → (have want : Type89) → text.Expr → text.Expr
pointer_of true have want e = text.Cast want (number 0)
pointer_of false have want e = as_type have want e

-- a value of one type converted to another that isn't void
abbrev pub converted : StructNames → (from to : CType) → text.Expr → text.Expr
converted names from (typed (Integer basic.Bool) quals) e = truth e
converted names from (typed (Pointer type) quals) e =
    pointer_of (is_integer from) (written_value names from) (written_value names (typed (Pointer type) quals)) e
converted names from to e = as_type (written_value names from) (written_value names to) e

-- ---- arrays whose length isn't known

-- a type names an array of unknown length, which a later declaration may have completed
abbrev mutual
  pub is_open : CType → Bool
  is_open (typed form quals) = is_open_form form

  pub is_open_form : Form → Bool
  is_open_form Void = false
  is_open_form (Integer basic) = false
  is_open_form (Enum basic order) = false
  is_open_form (Struct id) = false
  is_open_form (Pointer type) = is_open type
  is_open_form (Array type None) = true
  is_open_form (Array type (Some count)) = is_open type
  is_open_form (Function result parameters is_variadic) = is_open result || are_open parameters

  pub are_open : Types → Bool
  are_open no_types = false
  are_open (more_types type types) = is_open type || are_open types
