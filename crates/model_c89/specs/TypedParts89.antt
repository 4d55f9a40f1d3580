-- What the expressions of a C89 program have to be (ISO/IEC 9899:1990, 6.2.2, 6.3, 6.5), with the types of the
-- names in scope.
use Rattle.std.specs.Prelude.{ℕ, zero, suc, Bool, true, false, ◌&&◌, ◌||◌, not, List, length, Option, Some, None, is_some, if◌then◌else◌}
use Rattle.std.specs.List.{list_any}
use Rattle.model_types.specs.declared.numbers.BinOp.{BinOp}
use Rattle.model_types.specs.declared.numbers.BinOp.TheVariants.{Add, Sub, Less, Greater, LessEqual, GreaterEqual, Equal, NotEqual}
use Rattle.model_core.specs.Types89.{Struct, Type89, Based, Pointer, Array, Function}
use Rattle.model_c89.specs.Compatible89.{compatible}
use Rattle.model_core.specs.SameTypes.{is_zero_constant}
use Rattle.model_c89.specs.TargetLayout.{layout_of, members_in}
use Rattle.model_c89.specs.TargetTypes.{Names, type_of, value_type, integer_type, is_pointer, pointee}
use Rattle.model_c89.specs.TargetValues.{is_place, is_void, is_function}
use Rattle.model_c89.specs.Constants89.{constant_of}
use Rattle.model_core.specs.Program89 as text

abbrev pub is_integer : Type89 → Bool
is_integer type = is_some (integer_type type)

abbrev pub is_scalar : Type89 → Bool
is_scalar type = is_integer type || is_pointer type

abbrev pub is_array : Type89 → Bool
is_array (Array count of) = true
is_array _ = false

-- a type without the const outside of it
abbrev pub plainly : Type89 → Type89
plainly (Based is_const base) = Based false base
plainly (Pointer is_const to) = Pointer false to
plainly type = type

abbrev pub has_const : Type89 → Bool
has_const (Based is_const base) = is_const
has_const (Pointer is_const to) = is_const
has_const (Array count of) = has_const of
has_const type = false

abbrev pub is_complete : List text.Structure89 → Type89 → Bool
is_complete structures type = is_some (layout_of structures type)

-- const, or with const elements or members, by which tags are of structures that have some
abbrev pub holds_const : (List ℕ → Bool) → Type89 → Bool
holds_const of_tag (Based is_const (Struct name)) = is_const || of_tag name
holds_const of_tag (Based is_const base) = is_const
holds_const of_tag (Pointer is_const to) = is_const
holds_const of_tag (Array count of) = holds_const of_tag of
holds_const of_tag type = false

abbrev pub members_hold_const : (List ℕ → Bool) → Option (List text.Declaration) → Bool
members_hold_const of_tag None = false
members_hold_const of_tag (Some members) = list_any (λ m. holds_const of_tag m.type) members

-- a structure, where structures lie in one another at most this deep
abbrev pub tag_holds_const : (depth : ℕ) → List text.Structure89 → (name : List ℕ) → Bool
tag_holds_const zero structures name = false
tag_holds_const (suc depth) structures name = members_hold_const (tag_holds_const depth structures) (members_in structures name)

-- an object of the type isn't assigned to: it is const, or a member at any depth is (6.2.2.1)
abbrev pub is_const_somewhere : List text.Structure89 → Type89 → Bool
is_const_somewhere structures = holds_const (tag_holds_const (length structures) structures)

-- two pointers to compatible types, const of these aside
abbrev pub alike : Type89 → Type89 → Bool
alike (Pointer c t) (Pointer d u) = compatible (plainly t) (plainly u)
alike _ _ = false

abbrev pub is_void_pointer : Type89 → Bool
is_void_pointer (Pointer is_const to) = is_void to
is_void_pointer _ = false

abbrev pub is_object_pointer : Type89 → Bool
is_object_pointer (Pointer is_const to) = not (is_function to)
is_object_pointer _ = false

abbrev pub is_function_pointer : Type89 → Bool
is_function_pointer (Pointer is_const to) = is_function to
is_function_pointer _ = false

-- an integer constant expression of value 0, or one cast to a pointer to void
abbrev pub is_null_constant : Names → text.Expr → Bool
is_null_constant names (text.Cast type operand) = is_zero_constant (constant_of names (if is_void_pointer type then operand else text.Cast type operand))
is_null_constant names e = is_zero_constant (constant_of names e)

-- pointers that meet: to compatible types, one to void, or one that is a null constant
abbrev pub meet : (left_null right_null : Bool) → Type89 → Type89 → Bool
meet left_null right_null left right =
    alike left right
    || (is_pointer left && right_null)
    || (left_null && is_pointer right)
    || (is_object_pointer left && is_object_pointer right && (is_void_pointer left || is_void_pointer right))

-- a pointer that is moved points to a complete type
abbrev pub can_move : List text.Structure89 → Type89 → Bool
can_move structures type = is_object_pointer type && is_complete structures (pointee type)

abbrev pub both_integers : Type89 → Type89 → Bool
both_integers left right = is_integer left && is_integer right

-- pointers to objects, to compatible types (6.3.8)
abbrev pub are_ordered : Type89 → Type89 → Bool
are_ordered left right = is_object_pointer left && alike left right

-- the operands of a binary operator, with whether they are null constants
abbrev pub takes : List text.Structure89 → BinOp → (left_null right_null : Bool) → Type89 → Type89 → Bool
takes structures Add m n left right =
    both_integers left right || (can_move structures left && is_integer right) || (is_integer left && can_move structures right)
takes structures Sub m n left right =
    both_integers left right || (can_move structures left && is_integer right) || (can_move structures left && alike left right)
takes structures Less m n left right = both_integers left right || are_ordered left right
takes structures Greater m n left right = both_integers left right || are_ordered left right
takes structures LessEqual m n left right = both_integers left right || are_ordered left right
takes structures GreaterEqual m n left right = both_integers left right || are_ordered left right
takes structures Equal m n left right = both_integers left right || meet m n left right
takes structures NotEqual m n left right = both_integers left right || meet m n left right
takes structures op m n left right = both_integers left right

-- const behind a pointer isn't dropped
abbrev pub keeps_const : (from to : Type89) → Bool
keeps_const from to = has_const (pointee to) || not (has_const (pointee from))

-- a value of a type that is stored as one of another
abbrev pub assigns : (is_null : Bool) → (from to : Type89) → Bool
assigns is_null from to =
    both_integers from to
    || (is_pointer to && is_null)
    || ((alike from to || (is_object_pointer from && is_object_pointer to && (is_void_pointer from || is_void_pointer to))) && keeps_const from to)
    || (not (is_scalar to) && not (is_void to) && compatible from (plainly to))

-- a cast
abbrev pub casts : (is_null : Bool) → (from to : Type89) → Bool
casts is_null from to =
    is_void to
    || both_integers from to
    || (is_pointer to && is_null)
    || (is_object_pointer from && is_object_pointer to)
    || (is_function_pointer from && is_function_pointer to)

-- the two values of a choice: integers, a pointer and an integer that is a null constant, or values of one
-- type, which is that of the choice; pointers to other types want a cast here
abbrev pub joins : (first_null second_null : Bool) → Type89 → Type89 → Bool
joins m n first second =
    both_integers first second || (is_pointer first && is_integer second && n) || (is_integer first && m && is_pointer second)
    || (not (is_integer first) && compatible first second)

abbrev pub prefix_fits : Names → text.Prefix → text.Expr → Bool
prefix_fits names text.Minus e = is_integer (value_type names e)
prefix_fits names text.Complement e = is_integer (value_type names e)
prefix_fits names text.Not e = is_scalar (value_type names e)
prefix_fits names text.Deref e = is_pointer (value_type names e)
prefix_fits names text.AddressOf e = is_function (type_of names e) || (is_place e && not (is_void (type_of names e)))

-- one of the operands of an index is a pointer that can be moved, the other an integer
abbrev pub index_fits : List text.Structure89 → Type89 → Type89 → Bool
index_fits structures left right = (can_move structures left && is_integer right) || (is_integer left && can_move structures right)

abbrev pub result_fits : List text.Structure89 → Type89 → Bool
result_fits structures (Function result parameters is_variadic) = is_void result || is_complete structures result
result_fits structures type = false
