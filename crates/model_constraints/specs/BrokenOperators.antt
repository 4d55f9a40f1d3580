-- What operators of integers and scalars break (ISO/IEC 9899:2024, 6.5.3.5, 6.5.4, 6.5.6 to 6.5.15).
use Rattle.std.specs.Prelude.{Bool, true, false, ◌&&◌, ◌||◌, not, List}
use Rattle.cake_base.specs.declared.places.Place.{Place}
use Rattle.model_types.specs.declared.numbers.BinOp.{BinOp}
use Rattle.model_types.specs.declared.numbers.BinOp.TheVariants.{Mul, Div, Rem, Add, Sub, ShiftLeft, ShiftRight, Less, Greater, LessEqual, GreaterEqual, Equal, NotEqual, BitAnd, BitXor, BitOr}
use Rattle.model_types.specs.Structures.{Structure}
use Rattle.model_types.specs.Types.{Form}
use Rattle.model_types.specs.Layout.{is_complete}
use Rattle.model_grammar.specs.declared.syntax.PrefixOp.{PrefixOp}
use Rattle.model_grammar.specs.declared.syntax.PrefixOp.TheVariants as prefix
use Rattle.model_core.specs.CoreTypes.{is_pointer, is_void, object_type}
use Rattle.model_core.specs.MemberTypes.{is_const_somewhere}
use Rattle.model_core.specs.SameTypes.{is_integer, is_null_constant}
use Rattle.model_core.specs.TypedParts.{is_scalar, is_array, is_function_pointer}
use Rattle.model_core.specs.TypedExpr.{form_of, object_form}
use Rattle.model_core.specs.Core as unit
use Rattle.model_checking.specs.HeldValues.{is_held}
use Rattle.model_checking.specs.MadeCore.{operand}
use Rattle.model_checking.specs.Meanings.{Meaning, a_place, a_value, a_function, a_target, Operand}
use Rattle.model_constraints.specs.Pairs.{Pairs, Nothing, At, Beside}
use Rattle.model_constraints.specs.BrokenValues.{broken_use}
use Rattle.model_constraints.specs.BrokenPointers.{points_to_complete, broken_move, broken_difference, broken_comparison}

-- ---- the operands that a binary operator takes (6.5.6 to 6.5.15)

abbrev pub are_integers : (a b : unit.Expr) → Bool
are_integers a b = is_integer (form_of a) && is_integer (form_of b)

abbrev pub is_pointer_or_null : unit.Expr → Bool
is_pointer_or_null e = is_pointer (form_of e) || is_null_constant e

abbrev pub takes_summands : (a b : unit.Expr) → Bool
takes_summands a b =
    are_integers a b || is_pointer (form_of a) && is_integer (form_of b) || is_integer (form_of a) && is_pointer (form_of b)

abbrev pub takes_difference : (a b : unit.Expr) → Bool
takes_difference a b =
    are_integers a b || is_pointer (form_of a) && is_integer (form_of b) || is_pointer (form_of a) && is_pointer (form_of b)

abbrev pub takes_compared : (a b : unit.Expr) → Bool
takes_compared a b = are_integers a b || is_pointer_or_null a && is_pointer_or_null b

abbrev pub takes_operands : BinOp → (a b : unit.Expr) → Bool
takes_operands Mul a b = are_integers a b
takes_operands Div a b = are_integers a b
takes_operands Rem a b = are_integers a b
takes_operands Add a b = takes_summands a b
takes_operands Sub a b = takes_difference a b
takes_operands ShiftLeft a b = are_integers a b
takes_operands ShiftRight a b = are_integers a b
takes_operands Less a b = takes_compared a b
takes_operands Greater a b = takes_compared a b
takes_operands LessEqual a b = takes_compared a b
takes_operands GreaterEqual a b = takes_compared a b
takes_operands Equal a b = takes_compared a b
takes_operands NotEqual a b = takes_compared a b
takes_operands BitAnd a b = are_integers a b
takes_operands BitXor a b = are_integers a b
takes_operands BitOr a b = are_integers a b

-- an operator of sums: C12 of a pointer that is moved, C19 of two that are apart
abbrev pub broken_sum : List Structure → (at : Place) → (takes : Bool) → (a b : Operand) → Pairs
broken_sum structs at takes a b =
    Beside (broken_move structs takes a) (Beside (broken_difference at takes a.value b.value) (broken_move structs takes b))

-- what the operands break that an operator takes
abbrev pub broken_taken : List Structure → BinOp → (at : Place) → (a b : Operand) → Pairs
broken_taken structs Add at a b = broken_sum structs at (takes_summands a.value b.value) a b
broken_taken structs Sub at a b = broken_sum structs at (takes_difference a.value b.value) a b
broken_taken structs Less at a b = broken_comparison true at a.value b.value
broken_taken structs Greater at a b = broken_comparison true at a.value b.value
broken_taken structs LessEqual at a b = broken_comparison true at a.value b.value
broken_taken structs GreaterEqual at a b = broken_comparison true at a.value b.value
broken_taken structs Equal at a b = broken_comparison false at a.value b.value
broken_taken structs NotEqual at a b = broken_comparison false at a.value b.value
broken_taken structs op at a b = Nothing

-- ---- with both operands known

-- C09 at the operator; C12 and C19; C21 and C22 of the right operand
abbrev pub broken_binary : List Structure → BinOp → (at : Place) → (a b : Operand) → Pairs
broken_binary structs op at a b =
    Beside (At at 9 (not (takes_operands op a.value b.value))) (Beside (broken_taken structs op at a b) (broken_use structs b))

abbrev pub broken_logic : List Structure → (at : Place) → (a b : Operand) → Pairs
broken_logic structs at a b = Beside (At at 9 (not (is_scalar (form_of a.value) && is_scalar (form_of b.value)))) (broken_use structs b)

-- ---- prefix operators

-- an object that is no part of a value and isn't of type void, or a function, has an address
abbrev pub has_address : Meaning → Bool
has_address (a_place object known) = not (is_held object) && not (is_void (object_type object))
has_address (a_value value) = false
has_address (a_function id type by_name mark) = true
has_address (a_target pointer) = true

-- what `*` follows: a pointer to a complete object or to a function
abbrev pub may_be_followed : List Structure → Form → Bool
may_be_followed structs form = is_function_pointer form || points_to_complete structs form

abbrev broken_integer : List Structure → (at : Place) → Operand → Pairs
broken_integer structs at o = Beside (At at 9 (not (is_integer (form_of o.value)))) (broken_use structs o)

-- `&`: C11; `*`: C12; `+`, `-` and `~` of integers and `!` of scalars: C09 at the operator
abbrev pub broken_unary : List Structure → PrefixOp → (at first : Place) → Meaning → Pairs
broken_unary structs prefix.Address at first m = At first 11 (not (has_address m))
broken_unary structs prefix.Indirection at first m = At first 12 (not (may_be_followed structs (form_of (operand first m).value)))
broken_unary structs prefix.Plus at first m = broken_integer structs at (operand first m)
broken_unary structs prefix.Minus at first m = broken_integer structs at (operand first m)
broken_unary structs prefix.Complement at first m = broken_integer structs at (operand first m)
broken_unary structs prefix.Not at first m =
    Beside (At at 9 (not (is_scalar (form_of (operand first m).value)))) (broken_use structs (operand first m))

-- ---- what is changed

-- an object that is no array, complete, not const, and no structure with a const member
abbrev pub may_be_changed : List Structure → Meaning → Bool
may_be_changed structs (a_place object known) =
    not (is_array (object_form object)) && is_complete structs (object_type object) && not (is_const_somewhere structs (object_type object))
may_be_changed structs (a_value value) = false
may_be_changed structs (a_function id type by_name mark) = false
may_be_changed structs (a_target pointer) = false

-- `++` and `--`: C09 and C10 at the operator, C12 of a pointer at its first token
abbrev pub broken_step : List Structure → (at first : Place) → Meaning → Pairs
broken_step structs at first m =
    Beside (At at 9 (not (is_scalar (form_of (operand first m).value))))
    (Beside (At at 10 (not (may_be_changed structs m))) (broken_move structs true (operand first m)))
