-- What sums, differences, comparisons and elements with pointers break (ISO/IEC 9899:2024, 6.5.3.2, 6.5.7, 6.5.9, 6.5.10).
use Rattle.std.specs.Prelude.{Bool, true, false, ◌&&◌, ◌||◌, not, List}
use Rattle.cake_base.specs.declared.places.Place.{Place}
use Rattle.model_types.specs.Types.{Form}
use Rattle.model_types.specs.Structures.{Structure}
use Rattle.model_types.specs.Layout.{is_complete}
use Rattle.model_core.specs.CoreTypes.{is_pointer, pointee}
use Rattle.model_core.specs.SameTypes.{is_integer, is_null_constant}
use Rattle.model_core.specs.TypedParts.{is_object_pointer, is_function_pointer, alike_pointers, comparable}
use Rattle.model_core.specs.TypedExpr.{form_of}
use Rattle.model_core.specs.Core as unit
use Rattle.model_checking.specs.Meanings.{Operand}
use Rattle.model_constraints.specs.Pairs.{Pairs, At, Beside}
use Rattle.model_constraints.specs.BrokenValues.{broken_use}

-- a pointer to a complete object
abbrev pub points_to_complete : List Structure → Form → Bool
points_to_complete structs form = is_object_pointer form && is_complete structs (pointee form)

-- C12: a pointer that is moved points to a complete object
abbrev pub broken_move : List Structure → (is_moved : Bool) → Operand → Pairs
broken_move structs is_moved o =
    At o.first 12 (is_moved && is_pointer (form_of o.value) && not (points_to_complete structs (form_of o.value)))

-- ---- two pointers

abbrev pub are_pointers : (a b : unit.Expr) → Bool
are_pointers a b = is_pointer (form_of a) && is_pointer (form_of b)

abbrev pub is_one_null : (a b : unit.Expr) → Bool
is_one_null a b = is_null_constant a || is_null_constant b

-- C19: two pointers aren't to compatible types, their qualifiers aside, and neither is a null pointer constant
abbrev pub broken_difference : (at : Place) → (takes : Bool) → (a b : unit.Expr) → Pairs
broken_difference at takes a b =
    At at 19 (takes && are_pointers a b && not (alike_pointers (form_of a) (form_of b)) && not (is_one_null a b))

-- pointers and null pointer constants, and not two integers
abbrev pub compares_pointers : (a b : unit.Expr) → Bool
compares_pointers a b =
    (is_pointer (form_of a) || is_null_constant a) && (is_pointer (form_of b) || is_null_constant b)
    && not (is_integer (form_of a) && is_integer (form_of b))

-- functions have no order
abbrev pub have_order : (a b : unit.Expr) → Bool
have_order a b =
    (is_one_null a b || alike_pointers (form_of a) (form_of b))
    && not (is_function_pointer (form_of a)) && not (is_function_pointer (form_of b))

-- those to compatible types are equal or not, and those of which one is to void or a null pointer constant
abbrev pub can_be_equal : (a b : unit.Expr) → Bool
can_be_equal a b = is_one_null a b || comparable (form_of a) (form_of b)

abbrev pub agree : (by_order : Bool) → (a b : unit.Expr) → Bool
agree true a b = have_order a b
agree false a b = can_be_equal a b

-- C19 at the operator
abbrev pub broken_comparison : (by_order : Bool) → (at : Place) → (a b : unit.Expr) → Pairs
broken_comparison by_order at a b = At at 19 (compares_pointers a b && not (agree by_order a b))

-- ---- `[]`

-- a pointer and an integer, in either order
abbrev pub takes_element : (a b : unit.Expr) → Bool
takes_element a b = is_pointer (form_of a) && is_integer (form_of b) || is_integer (form_of a) && is_pointer (form_of b)

-- C09 at the `[`; C12 of the pointer; C21 and C22 of the right operand
abbrev pub broken_element : List Structure → (at : Place) → (a b : Operand) → Pairs
broken_element structs at a b =
    Beside (At at 9 (not (takes_element a.value b.value)))
    (Beside (broken_move structs (takes_element a.value b.value) a)
    (Beside (broken_move structs (takes_element a.value b.value) b) (broken_use structs b)))
