-- What the parts of an expression of a core have to be (ISO/IEC 9899:2024, 6.3, 6.5), as far as the
-- expression shows it by itself.
use Rattle.std.specs.Prelude.{ℤ, Bool, true, false, ◌&&◌, ◌||◌, not, List, [], ◌∷◌, if◌then◌else◌}
use Rattle.model_types.specs.declared.numbers.Basic.{Basic}
use Rattle.model_types.specs.declared.numbers.Basic.TheVariants.{Bool as bool, Int}
use Rattle.model_types.specs.declared.numbers.BinOp.{BinOp}
use Rattle.model_types.specs.declared.numbers.BinOp.TheVariants.{Add, Sub, Less, Greater, LessEqual, GreaterEqual, Equal, NotEqual}
use Rattle.model_types.specs.declared.operators.UnaryOp.{UnaryOp}
use Rattle.model_types.specs.declared.operators.UnaryOp.TheVariants.{Not}
use Rattle.model_types.specs.declared.marks.Origin.{Origin}
use Rattle.model_types.specs.declared.marks.Origin.TheVariants.{Written, Implied}
use Rattle.model_types.specs.Operations.{fits}
use Rattle.model_types.specs.Conversions.{promoted, common, is_shift, is_comparison}
use Rattle.model_types.specs.Types.{CType, Form, Void, Integer, Enum, Pointer, Array, Struct, Function, Types, no_types, more_types, form_of_type, quals_of_type}
use Rattle.model_types.specs.Compatible.{compatible, same_basic}
use Rattle.model_core.specs.CoreTypes.{unqualified, is_pointer, basic_of}
use Rattle.model_core.specs.SameTypes.{same_value_type, same_form, is_integer, is_zero, is_void_pointer}

abbrev pub is_array : Form → Bool
is_array (Array type count) = true
is_array _ = false

abbrev pub is_function : Form → Bool
is_function (Function result parameters variadic) = true
is_function _ = false

abbrev pub is_struct : Form → Bool
is_struct (Struct id) = true
is_struct _ = false

abbrev pub is_scalar : Form → Bool
is_scalar form = is_integer form || is_pointer form

abbrev pub is_function_pointer : Form → Bool
is_function_pointer (Pointer type) = is_function (form_of_type type)
is_function_pointer _ = false

-- a pointer to an object or to void
abbrev pub is_object_pointer : Form → Bool
is_object_pointer (Pointer type) = not (is_function (form_of_type type))
is_object_pointer _ = false

abbrev pub is_promoted : Form → Bool
is_promoted (Integer basic) = same_basic (promoted basic) basic
is_promoted _ = false

-- two pointers to compatible types, the qualifiers of these themselves aside
abbrev pub alike_pointers : Form → Form → Bool
alike_pointers (Pointer t) (Pointer u) = compatible (unqualified t) (unqualified u)
alike_pointers _ _ = false

-- two pointers that can be equal: to compatible types, or one to void
abbrev pub comparable : Form → Form → Bool
comparable f g = alike_pointers f g || is_object_pointer f && is_object_pointer g && (is_void_pointer f || is_void_pointer g)

-- two pointers that have an order: to compatible types of objects, or to void (6.5.9); functions have none
abbrev pub ordered_pointers : Form → Form → Bool
ordered_pointers f g = is_object_pointer f && alike_pointers f g

abbrev pub same_promoted : Form → Form → Bool
same_promoted f g = is_promoted f && same_form f g

-- the operands of a binary operator (6.5.6 to 6.5.13): of one promoted type, but for a shift's; or pointers
abbrev pub takes : BinOp → Form → Form → Bool
takes Add f g = same_promoted f g || is_object_pointer f && is_integer g || is_integer f && is_object_pointer g
takes Sub f g = same_promoted f g || is_object_pointer f && is_integer g || is_object_pointer f && alike_pointers f g
takes Less f g = same_promoted f g || ordered_pointers f g
takes Greater f g = same_promoted f g || ordered_pointers f g
takes LessEqual f g = same_promoted f g || ordered_pointers f g
takes GreaterEqual f g = same_promoted f g || ordered_pointers f g
takes Equal f g = same_promoted f g || comparable f g
takes NotEqual f g = same_promoted f g || comparable f g
takes op f g = if is_shift op then is_promoted f && is_promoted g else same_promoted f g

abbrev pub takes_one : UnaryOp → Form → Bool
takes_one Not form = is_scalar form
takes_one op form = is_promoted form

-- a conversion from a form to another that a cast or an assignment may make (6.3.2, 6.3.3, 6.5.5,
-- 6.5.17.2); of the types of integers `bool` alone takes a pointer
abbrev pub converts : (is_null : Bool) → (from to : Form) → Bool
converts is_null from Void = true
converts is_null from (Integer bool) = is_scalar from
converts is_null from (Integer basic) = is_integer from
converts is_null from (Enum basic order) = is_integer from
converts is_null from (Pointer type) =
    is_null || is_object_pointer from && is_object_pointer (Pointer type) || is_function_pointer from && is_function_pointer (Pointer type)
converts is_null from (Struct id) = same_form from (Struct id)
converts is_null from _ = false

-- an implied one: pointers are to types that are compatible apart from their own qualifiers, or one of them
-- is to void; and there is none to void
abbrev pub implied_fits : (is_null : Bool) → (from to : Form) → Bool
implied_fits is_null from (Pointer type) = is_null || comparable from (Pointer type)
implied_fits is_null from Void = false
implied_fits is_null from to = true

-- there is no cast to a structure
abbrev pub origin_fits : Origin → (is_null : Bool) → (from to : Form) → Bool
origin_fits Written is_null from to = not (is_struct to)
origin_fits Implied is_null from to = implied_fits is_null from to

-- a constant of an integer type has one of its values, of a pointer type it is null
abbrev pub constant_fits : ℤ → Form → Bool
constant_fits value (Integer basic) = fits basic value
constant_fits value (Enum basic order) = fits basic value
constant_fits value (Pointer type) = is_zero value
constant_fits value form = false

-- a value can be loaded and stored: a scalar or a structure
abbrev pub is_storable : Form → Bool
is_storable form = is_scalar form || is_struct form

-- an object that can be assigned to (6.3.3.1), as far as its type shows it
abbrev pub may_be_assigned : CType → Bool
may_be_assigned type = is_storable (form_of_type type) && not (quals_of_type type).has_const

-- an argument behind the parameters is promoted
abbrev pub is_extra : Form → Bool
is_extra form = is_promoted form || is_pointer form || is_struct form

-- the type is one in which an operation on an integer of another type and some value is done: for a shift
-- the promoted type of the integer, else their common type
abbrev pub done_in_type : BinOp → (done_in object : Basic) → Bool
done_in_type op done_in object = same_basic (if is_shift op then promoted object else common object done_in) done_in

-- a pointer is moved by `+=` and `-=` alone
abbrev pub moves_pointer : BinOp → Bool
moves_pointer Add = true
moves_pointer Sub = true
moves_pointer _ = false

-- the right operand of a compound assignment of integers is of the type in which it is done, or a shift's
abbrev pub integer_value_fits : BinOp → (done_in value : Form) → Bool
integer_value_fits op done_in value = if is_shift op then is_promoted value else same_form done_in value

-- the type in which a compound assignment is done, from its operands (6.5.17.3)
abbrev pub done_fits : BinOp → (done_in object value : Form) → Bool
done_fits op done_in object value =
    if is_pointer done_in then moves_pointer op && is_object_pointer done_in && same_form done_in object && is_integer value
    else not (is_comparison op) && is_integer object && is_promoted done_in && done_in_type op (basic_of done_in) (basic_of object) && integer_value_fits op done_in value

-- the type in which `++` or `--` is done: that of a sum with an int (6.5.3.5, 6.5.4.1)
abbrev pub step_fits : (done_in object : Form) → Bool
step_fits done_in object =
    if is_pointer done_in then is_object_pointer done_in && same_form done_in object
    else is_integer object && is_promoted done_in && same_basic (common (basic_of object) Int) (basic_of done_in)

-- the types of arguments: those of the parameters, and behind them promoted ones where there may be more
abbrev pub argument_types_fit : Types → (is_variadic : Bool) → List CType → Bool
argument_types_fit no_types is_variadic [] = true
argument_types_fit no_types is_variadic (type ∷ types) = is_variadic && is_extra (form_of_type type) && argument_types_fit no_types is_variadic types
argument_types_fit (more_types parameter parameters) is_variadic [] = false
argument_types_fit (more_types parameter parameters) is_variadic (type ∷ types) =
    same_value_type parameter type && argument_types_fit parameters is_variadic types

abbrev pub call_fits : Form → List CType → Bool
call_fits (Function result parameters is_variadic) types = argument_types_fit parameters is_variadic types
call_fits form types = false
