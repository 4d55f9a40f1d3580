-- Types that are the same in every part (ISO/IEC 9899:2024, 6.2.7), and constants that are null
-- (6.3.3.3).
use Rattle.std.specs.Prelude.{ℕ, nat_eq, ℤ, pos, Bool, true, false, ◌&&◌, ◌||◌, not, Option, Some, None, Result, Ok, Err, if◌then◌else◌}
use Rattle.std.specs.Ordering.{int_eq}
use Rattle.model_types.specs.declared.operators.LogicOp.{LogicOp}
use Rattle.model_types.specs.declared.operators.LogicOp.TheVariants.{And, Or}
use Rattle.model_types.specs.declared.outcomes.Cause.{Cause}
use Rattle.model_types.specs.Operations.{convert, operate, truth, on_number}
use Rattle.model_types.specs.Types.{CType, typed, Form, Void, Integer, Enum, Pointer, Array, Struct, Function, Types, no_types, more_types, form_of_type}
use Rattle.model_types.specs.Compatible.{same_basic, same_bool, same_quals}
use Rattle.model_core.specs.CoreTypes.{no_quals, type_of, basic_of}
use Rattle.model_core.specs.Core as unit

abbrev pub same_length : Option ℕ → Option ℕ → Bool
same_length (Some m) (Some n) = nat_eq m n
same_length None None = true
same_length _ _ = false

abbrev mutual
  pub same_type : CType → CType → Bool
  same_type (typed f p) (typed g q) = same_quals p q && same_form f g

  pub same_form : Form → Form → Bool
  same_form Void Void = true
  same_form (Integer b) (Integer c) = same_basic b c
  same_form (Enum b d) (Enum c e) = nat_eq d e && same_basic b c
  same_form (Pointer t) (Pointer u) = same_type t u
  same_form (Array t m) (Array u n) = same_type t u && same_length m n
  same_form (Struct s) (Struct r) = nat_eq s.0 r.0
  same_form (Function t ps v) (Function u qs w) = same_type t u && same_types ps qs && same_bool v w
  same_form _ _ = false

  pub same_types : Types → Types → Bool
  same_types no_types no_types = true
  same_types (more_types t ts) (more_types u us) = same_type t u && same_types ts us
  same_types _ _ = false

-- the same apart from the qualifiers outside
abbrev pub same_value_type : CType → CType → Bool
same_value_type t u = same_form (form_of_type t) (form_of_type u)

abbrev pub is_integer : Form → Bool
is_integer (Integer basic) = true
is_integer (Enum basic order) = true
is_integer _ = false

abbrev pub value_or_none : Result ℤ Cause → Option ℤ
value_or_none (Ok value) = Some value
value_or_none (Err cause) = None

abbrev pub with_two : (ℤ → ℤ → Option ℤ) → Option ℤ → Option ℤ → Option ℤ
with_two f (Some a) (Some b) = f a b
with_two f _ _ = None

abbrev pub with_one : (ℤ → Option ℤ) → Option ℤ → Option ℤ
with_one f (Some a) = f a
with_one f None = None

abbrev pub is_zero : ℤ → Bool
is_zero value = int_eq value (pos 0)

-- `&&` and `||` of constants; the second is asked where the first doesn't decide
abbrev pub constant_logic : LogicOp → Option ℤ → ℤ → Option ℤ
constant_logic And second a = if is_zero a then Some (pos 0) else with_one (λ b. Some (truth (not (is_zero b)))) second
constant_logic Or second a = if is_zero a then with_one (λ b. Some (truth (not (is_zero b)))) second else Some (pos 1)

-- built of integer constants by conversions to integer types, operators, `&&`, `||` and `?:` alone, the
-- parts that aren't evaluated among them
abbrev pub is_built_of_constants : unit.Expr → Bool
is_built_of_constants (unit.Constant value type mark) = is_integer (form_of_type type)
is_built_of_constants (unit.Convert origin type e mark) = is_integer (form_of_type type) && is_built_of_constants e
is_built_of_constants (unit.Unary op e mark) = is_built_of_constants e
is_built_of_constants (unit.Binary op a b mark) = is_built_of_constants a && is_built_of_constants b
is_built_of_constants (unit.Logic op a b mark) = is_built_of_constants a && is_built_of_constants b
is_built_of_constants (unit.Choice c a b mark) = is_built_of_constants c && is_built_of_constants a && is_built_of_constants b
is_built_of_constants _ = false

-- the value of an expression that is built so, none where it is undefined in a part that is evaluated
abbrev pub constant_value : unit.Expr → Option ℤ
constant_value (unit.Constant value type mark) = if is_integer (form_of_type type) then Some value else None
constant_value (unit.Convert origin type e mark) =
    if is_integer (form_of_type type) then with_one (λ v. Some (convert (basic_of (form_of_type type)) v)) (constant_value e) else None
constant_value (unit.Unary op e mark) = with_one (λ v. value_or_none (on_number op (basic_of (form_of_type (type_of e))) v)) (constant_value e)
constant_value (unit.Binary op a b mark) =
    with_two (λ v w. value_or_none (operate op (basic_of (form_of_type (type_of a))) v w)) (constant_value a) (constant_value b)
constant_value (unit.Logic op a b mark) = with_one (constant_logic op (constant_value b)) (constant_value a)
constant_value (unit.Choice c a b mark) = with_one (λ v. if is_zero v then constant_value b else constant_value a) (constant_value c)
constant_value _ = None

-- the value of an integer constant expression (6.6); none where it isn't one, or is undefined
abbrev pub integer_constant : unit.Expr → Option ℤ
integer_constant e = if is_built_of_constants e then constant_value e else None

abbrev pub is_zero_constant : Option ℤ → Bool
is_zero_constant None = false
is_zero_constant (Some value) = is_zero value

abbrev pub is_void_pointer : Form → Bool
is_void_pointer (Pointer (typed Void quals)) = true
is_void_pointer _ = false

-- `void *`, the type of `nullptr`
abbrev pub is_plain_void_pointer : Form → Bool
is_plain_void_pointer (Pointer (typed Void quals)) = same_quals quals no_quals
is_plain_void_pointer _ = false

-- a null pointer constant: `nullptr`, an integer constant expression of value 0, or one cast to `void *`
abbrev pub is_null_constant : unit.Expr → Bool
is_null_constant (unit.Constant value type mark) = is_zero value && (is_integer (form_of_type type) || is_plain_void_pointer (form_of_type type))
is_null_constant (unit.Convert origin type e mark) =
    if is_plain_void_pointer (form_of_type type) then is_zero_constant (integer_constant e)
    else is_zero_constant (integer_constant (unit.Convert origin type e mark))
is_null_constant e = is_zero_constant (integer_constant e)
