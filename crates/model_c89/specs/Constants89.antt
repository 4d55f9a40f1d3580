-- Integer constant expressions of a C89 program (ISO/IEC 9899:1990, 6.4).
use Rattle.std.specs.Prelude.{ℤ, pos, Bool, true, false, ◌&&◌, Option, Some, None, is_some, if◌then◌else◌}
use Rattle.model_types.specs.declared.numbers.Basic.{Basic}
use Rattle.model_types.specs.declared.operators.UnaryOp.TheVariants.{Minus, Complement}
use Rattle.model_types.specs.Operations.{convert, truth, on_number}
use Rattle.model_types.specs.Conversions.{promoted, operand_type, converted_operation, common}
use Rattle.model_core.specs.SameTypes.{value_or_none, with_one, with_two, is_zero, constant_logic}
use Rattle.model_c89.specs.TargetTypes.{Names, value_type, integer_type, basic_or_int}
use Rattle.model_core.specs.Program89 as text

-- the integer type of an expression's value
abbrev pub basic_of : Names → text.Expr → Basic
basic_of names e = basic_or_int (integer_type (value_type names e))

abbrev pub cast_constant : Option Basic → Option ℤ → Option ℤ
cast_constant None value = None
cast_constant (Some basic) value = with_one (λ v. Some (convert basic v)) value

-- built of constants by operators and casts to integer types alone, the parts that aren't evaluated among
-- them
abbrev pub is_built_of_constants : text.Expr → Bool
is_built_of_constants (text.Constant number suffix) = true
is_built_of_constants (text.Unary text.Minus e) = is_built_of_constants e
is_built_of_constants (text.Unary text.Complement e) = is_built_of_constants e
is_built_of_constants (text.Unary text.Not e) = is_built_of_constants e
is_built_of_constants (text.Binary op a b) = is_built_of_constants a && is_built_of_constants b
is_built_of_constants (text.Logic op a b) = is_built_of_constants a && is_built_of_constants b
is_built_of_constants (text.Choice c a b) = is_built_of_constants c && is_built_of_constants a && is_built_of_constants b
is_built_of_constants (text.Cast type e) = is_some (integer_type type) && is_built_of_constants e
is_built_of_constants e = false

-- the value of an expression that is built so, none where it is undefined in a part that is evaluated
abbrev pub computed : Names → text.Expr → Option ℤ
computed names (text.Constant number suffix) = Some (pos number)
computed names (text.Unary text.Minus e) =
    with_one (λ v. value_or_none (on_number Minus (promoted (basic_of names e)) (convert (promoted (basic_of names e)) v))) (computed names e)
computed names (text.Unary text.Complement e) =
    with_one (λ v. value_or_none (on_number Complement (promoted (basic_of names e)) (convert (promoted (basic_of names e)) v))) (computed names e)
computed names (text.Unary text.Not e) = with_one (λ v. Some (truth (is_zero v))) (computed names e)
computed names (text.Binary op a b) =
    with_two (λ v w. value_or_none (converted_operation op (operand_type op (basic_of names a) (basic_of names b)) v w)) (computed names a) (computed names b)
computed names (text.Logic op a b) = with_one (constant_logic op (computed names b)) (computed names a)
computed names (text.Choice c a b) =
    with_one (λ v. with_one (λ w. Some (convert (common (basic_of names a) (basic_of names b)) w)) (if is_zero v then computed names b else computed names a)) (computed names c)
computed names (text.Cast type e) = cast_constant (integer_type type) (computed names e)
computed names _ = None

-- the value of an integer constant expression, none where it is none or is undefined
abbrev pub constant_of : Names → text.Expr → Option ℤ
constant_of names e = if is_built_of_constants e then computed names e else None

-- the value, converted to an integer type
abbrev pub constant_value : Names → Basic → text.Expr → Option ℤ
constant_value names basic e = with_one (λ v. Some (convert basic v)) (constant_of names e)
