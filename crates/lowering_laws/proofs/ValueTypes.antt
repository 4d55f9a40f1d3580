-- Constants and conversions have exactly the type that is written, and have one where their parts do.
use Rattle.std.proofs.Common.{◌≡◌, ◌∙◌, ap, refl, sym, ℕ, suc, nat_eq, ℤ, pos, negsuc, Bool, true, false, ◌&&◌, ◌||◌, List, Option, Some, None, if◌then◌else◌}
use Rattle.model_types.specs.declared.numbers.Basic.{Basic}
use Rattle.model_types.specs.declared.numbers.Basic.TheVariants as basic
use Rattle.model_types.specs.declared.numbers.BinOp.TheVariants.{Sub}
use Rattle.model_types.specs.Types.{CType, typed, Form, Void, Integer, Enum, Pointer, Array, Struct, Function}
use Rattle.model_core.specs.Types89 as w
use Rattle.model_core.specs.Types89.{Type89}
use Rattle.model_core.specs.Program89 as text
use Rattle.model_c89.specs.Written89.{greatest}
use Rattle.model_c89.specs.TargetTypes.{Names, value_type, decayed, basic_type, constant_type}
use Rattle.c_model.specs.WrittenType.{StructNames, written_value}
use Rattle.model_lowering.specs.TextValues as v
use Rattle.lowering_laws.proofs.SameTypes.{same_is}

-- a type that values have
abbrev IsValueType : Type89 → Type 0
IsValueType type = decayed type ≡ type

if_as : (b : Bool) (names : Names) (have want : Type89) (e : text.Expr) → (b ≡ true → have ≡ want) → IsValueType want → value_type names e ≡ have →
    value_type names (if b then e else text.Cast want e) ≡ want
if_as true names have want e same d h = h ∙ same refl
if_as false names have want e same d h = d

pub as_type_is : (names : Names) (have want : Type89) (e : text.Expr) → IsValueType want → value_type names e ≡ have → value_type names (v.as_type have want e) ≡ want
as_type_is names have want e d h = if_as (v.same_type have want) names have want e (same_is have want) d h

either_type : (b : Bool) (names : Names) (type : Type89) (x y : text.Expr) → value_type names x ≡ type → value_type names y ≡ type → value_type names (if b then x else y) ≡ type
either_type true names type x y h k = h
either_type false names type x y h k = k

-- numbers of a promoted type
signed_type : (names : Names) (suffix : text.Suffix) (value : ℤ) → value_type names (v.signed suffix value) ≡ constant_type suffix
signed_type names text.Plain (pos n) = refl
signed_type names text.U (pos n) = refl
signed_type names text.L (pos n) = refl
signed_type names text.UL (pos n) = refl
signed_type names text.Plain (negsuc n) =
    either_type (nat_eq n (greatest text.Plain)) names (constant_type text.Plain)
    (text.Binary Sub (text.Unary text.Minus (text.Constant n text.Plain)) (text.Constant 1 text.Plain)) (text.Unary text.Minus (text.Constant (suc n) text.Plain)) refl refl
signed_type names text.U (negsuc n) =
    either_type (nat_eq n (greatest text.U)) names (constant_type text.U)
    (text.Binary Sub (text.Unary text.Minus (text.Constant n text.U)) (text.Constant 1 text.U)) (text.Unary text.Minus (text.Constant (suc n) text.U)) refl refl
signed_type names text.L (negsuc n) =
    either_type (nat_eq n (greatest text.L)) names (constant_type text.L)
    (text.Binary Sub (text.Unary text.Minus (text.Constant n text.L)) (text.Constant 1 text.L)) (text.Unary text.Minus (text.Constant (suc n) text.L)) refl refl
signed_type names text.UL (negsuc n) =
    either_type (nat_eq n (greatest text.UL)) names (constant_type text.UL)
    (text.Binary Sub (text.Unary text.Minus (text.Constant n text.UL)) (text.Constant 1 text.UL)) (text.Unary text.Minus (text.Constant (suc n) text.UL)) refl refl

letters_type : (b : Basic) → constant_type (v.letters b) ≡ v.promoted_type b
letters_type basic.Bool = refl
letters_type basic.Char = refl
letters_type basic.SignedChar = refl
letters_type basic.UnsignedChar = refl
letters_type basic.Short = refl
letters_type basic.UnsignedShort = refl
letters_type basic.Int = refl
letters_type basic.Unsigned = refl
letters_type basic.Long = refl
letters_type basic.UnsignedLong = refl
letters_type basic.LongLong = refl
letters_type basic.UnsignedLongLong = refl

pub integer_type_is : (names : Names) (b : Basic) (value : ℤ) → value_type names (v.integer b value) ≡ basic_type b
integer_type_is names b value =
    as_type_is names (v.promoted_type b) (basic_type b) (v.signed (v.letters b) value) refl (signed_type names (v.letters b) value ∙ letters_type b)

-- a constant of a scalar type has the type that the text writes for it
pub constant_type_is : (names : Names) (structs : StructNames) (value : ℤ) (type : CType) → v.is_integer type ≡ true → value_type names (v.constant structs value type) ≡ written_value structs type
constant_type_is names structs value (typed Void quals) h = cc
constant_type_is names structs value (typed (Integer b) quals) h = integer_type_is names b value
constant_type_is names structs value (typed (Enum b order) quals) h = integer_type_is names b value
constant_type_is names structs value (typed (Pointer type) quals) h = cc
constant_type_is names structs value (typed (Array type count) quals) h = cc
constant_type_is names structs value (typed (Struct id) quals) h = cc
constant_type_is names structs value (typed (Function result parameters is_variadic) quals) h = cc

pub null_type_is : (names : Names) (structs : StructNames) (value : ℤ) (type : CType) (quals : _) →
    value_type names (v.constant structs value (typed (Pointer type) quals)) ≡ written_value structs (typed (Pointer type) quals)
null_type_is names structs value type quals = refl
