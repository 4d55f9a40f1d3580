-- The types of a C89 program's expressions (ISO/IEC 9899:1990, 6.2.1.5, 6.2.2.1, 6.3), from those of its
-- names.
use Rattle.std.specs.Prelude.{ℕ, Bool, true, false, ◌||◌, List, [], ◌∷◌, Option, Some, None, if◌then◌else◌}
use Rattle.std.specs.Str.{bytes_eq}
use Rattle.model_types.specs.declared.numbers.Basic.{Basic}
use Rattle.model_types.specs.declared.numbers.Basic.TheVariants.{Int as int}
use Rattle.model_types.specs.declared.numbers.BinOp.{BinOp}
use Rattle.model_types.specs.declared.numbers.BinOp.TheVariants.{Sub}
use Rattle.model_types.specs.Conversions.{promoted, common, is_comparison, operand_type}
use Rattle.model_core.specs.Types89.{UnsignedInt, Long, UnsignedLong, integer_of, base_of, Type89, Based, Pointer, Array, Function, int_type}
use Rattle.model_c89.specs.TargetLayout.{member_of, found_type}
use Rattle.model_core.specs.Program89 as text

-- the structures of a program, and the names that are in scope, the innermost first
pub record Names : Type 0 where
  pub structures : List text.Structure89
  pub declared : List text.Declaration

abbrev pub find_name : List text.Declaration → (name : List ℕ) → Option Type89
find_name [] name = None
find_name (d ∷ ds) name = if bytes_eq d.name name then Some d.type else find_name ds name

abbrev pub type_or_int : Option Type89 → Type89
type_or_int None = int_type
type_or_int (Some type) = type

abbrev pub constant_type : text.Suffix → Type89
constant_type text.Plain = int_type
constant_type text.U = Based false UnsignedInt
constant_type text.L = Based false Long
constant_type text.UL = Based false UnsignedLong

-- the integer type of a type, where it is one
abbrev pub integer_type : Type89 → Option Basic
integer_type (Based is_const base) = integer_of base
integer_type type = None

abbrev pub basic_type : Basic → Type89
basic_type basic = Based false (base_of basic)

abbrev pub basic_or_int : Option Basic → Basic
basic_or_int None = int
basic_or_int (Some basic) = basic

-- the type that a value has where an object or function of a type is used: an array becomes a pointer to
-- its first element, a function a pointer to it
abbrev pub decayed : Type89 → Type89
decayed (Based is_const base) = Based false base
decayed (Pointer is_const to) = Pointer false to
decayed (Array count of) = Pointer false of
decayed (Function result parameters is_variadic) = Pointer false (Function result parameters is_variadic)

abbrev pub is_pointer : Type89 → Bool
is_pointer (Pointer is_const to) = true
is_pointer _ = false

abbrev pub pointee : Type89 → Type89
pointee (Pointer is_const to) = to
pointee type = type

-- what is found at an index, from the decayed types of the operands
abbrev pub indexed_type : Type89 → Type89 → Type89
indexed_type left right = if is_pointer left then pointee left else pointee right

abbrev pub result_type : Type89 → Type89
result_type (Function result parameters is_variadic) = decayed result
result_type type = type

-- an operation in the common type of integers
abbrev pub common_type : BinOp → Option Basic → Option Basic → Type89
common_type op left right = basic_type (operand_type op (basic_or_int left) (basic_or_int right))

abbrev pub moved_type : BinOp → Type89 → Type89 → Type89
moved_type Sub left right = if is_pointer left then (if is_pointer right then Based false Long else left) else right
moved_type op left right = if is_pointer left then left else right

abbrev pub binary_type : BinOp → Type89 → Type89 → Type89
binary_type op left right =
    if is_comparison op then int_type
    else if is_pointer left || is_pointer right then moved_type op left right else common_type op (integer_type left) (integer_type right)

abbrev pub prefix_type : text.Prefix → Type89 → Type89
prefix_type text.Not type = int_type
prefix_type text.Deref type = pointee (decayed type)
prefix_type text.AddressOf type = Pointer false type
prefix_type op type = basic_type (promoted (basic_or_int (integer_type type)))

abbrev pub by_integers : Option Basic → Option Basic → Type89 → Type89 → Type89
by_integers (Some left) (Some right) first second = basic_type (common left right)
by_integers None right first second = first
by_integers (Some left) None first second = second

-- two integers meet in their common type, a pointer and a null constant in the pointer's; else both are of
-- one type
abbrev pub chosen_type : Type89 → Type89 → Type89
chosen_type first second = by_integers (integer_type first) (integer_type second) first second

-- the type of an expression before it decays
abbrev pub type_of : Names → text.Expr → Type89
type_of names (text.Name name) = type_or_int (find_name names.declared name)
type_of names (text.Constant number suffix) = constant_type suffix
type_of names (text.Index left right) = indexed_type (decayed (type_of names left)) (decayed (type_of names right))
type_of names (text.Dot structure name) = found_type (member_of names.structures (type_of names structure) name)
type_of names (text.Arrow pointer name) = found_type (member_of names.structures (pointee (decayed (type_of names pointer))) name)
type_of names (text.Call function arguments) = result_type (pointee (decayed (type_of names function)))
type_of names (text.Unary op operand) = prefix_type op (type_of names operand)
type_of names (text.Binary op left right) = binary_type op (decayed (type_of names left)) (decayed (type_of names right))
type_of names (text.Logic op left right) = int_type
type_of names (text.Choice condition first second) = chosen_type (decayed (type_of names first)) (decayed (type_of names second))
type_of names (text.Cast type operand) = type

-- the type of an expression's value
abbrev pub value_type : Names → text.Expr → Type89
value_type names e = decayed (type_of names e)
