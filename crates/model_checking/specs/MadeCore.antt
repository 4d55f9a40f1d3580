-- The value of what an expression is (ISO/IEC 9899:2024, 6.3.3), and the conversions that operators imply (6.3.2).
use Rattle.std.specs.Prelude.{ℤ, Bool, true, false, ◌&&◌, if◌then◌else◌, List, Option, Some, None}
use Rattle.cake_base.specs.declared.places.Place.{Place}
use Rattle.cake_base.specs.declared.rules.Fault.{Fault}
use Rattle.model_types.specs.declared.numbers.Basic.{Basic}
use Rattle.model_types.specs.declared.numbers.BinOp.{BinOp}
use Rattle.model_types.specs.declared.marks.Mark.{Mark}
use Rattle.model_types.specs.declared.marks.Origin.TheVariants.{Implied}
use Rattle.model_types.specs.Types.{CType, Form, Integer, form_of_type}
use Rattle.model_types.specs.Structures.{Structure}
use Rattle.model_types.specs.Layout.{is_complete}
use Rattle.model_types.specs.Conversions.{promoted, common}
use Rattle.model_core.specs.CoreTypes.{plain, unqualified, pointee, type_of, object_type, basic_of, is_void}
use Rattle.model_core.specs.SameTypes.{is_integer, same_value_type, is_plain_void_pointer}
use Rattle.model_core.specs.TypedParts.{is_array}
use Rattle.model_core.specs.TypedExpr.{form_of, object_form}
use Rattle.model_core.specs.SourceMarks.{expr_mark, lvalue_mark}
use Rattle.model_core.specs.Core as unit
use Rattle.model_checking.specs.Meanings.{Meaning, a_place, a_value, a_function, a_target, Operand}
use Rattle.model_checking.specs.Faults.{wants}

-- a value of an integer or pointer type without its qualifiers
abbrev pub constant : ℤ → CType → Mark → unit.Expr
constant value type mark = unit.Constant value (unqualified type) mark

-- the value of a `constexpr` object; one of type `void *` is a null pointer, but no null pointer constant (6.3.3.3)
abbrev pub known_value : ℤ → CType → Mark → unit.Expr
known_value value type mark =
    if is_plain_void_pointer (form_of_type type) then unit.Convert Implied (unqualified type) (constant value type mark) mark
    else constant value type mark

-- an array is the address of its first element; any other object is loaded
abbrev pub object_value : unit.Lvalue → Option ℤ → unit.Expr
object_value object None =
    if is_array (object_form object) then unit.Address Implied object (lvalue_mark object) else unit.Load object (lvalue_mark object)
object_value object (Some value) = known_value value (object_type object) (lvalue_mark object)

-- the value, if there is one: void objects and those of incomplete structures have none
abbrev pub value_of : Meaning → unit.Expr
value_of (a_place object known) = object_value object known
value_of (a_value value) = value
value_of (a_function id type by_name mark) = unit.FunctionRef id type by_name mark
value_of (a_target pointer) = pointer

abbrev pub operand : (first : Place) → Meaning → Operand
operand first meaning = record { value = value_of meaning; first = first }

-- the type, that of an array or function among them
abbrev pub meaning_type : Meaning → CType
meaning_type (a_place object known) = object_type object
meaning_type (a_value value) = type_of value
meaning_type (a_function id type by_name mark) = type
meaning_type (a_target pointer) = pointee (form_of pointer)

abbrev pub operand_form : Operand → Form
operand_form o = form_of o.value

-- ---- C21: a value of type void is used; C22: the value of an incomplete structure

abbrev pub used_fault : List Structure → Operand → Option Fault
used_fault structs o =
    if is_void (type_of o.value) then wants false o.first 21 else wants (is_complete structs (type_of o.value)) o.first 22

-- an object that has no value
abbrev pub is_valueless : List Structure → unit.Expr → Bool
is_valueless structs (unit.Load object mark) = if is_complete structs (object_type object) then false else true
is_valueless structs _ = false

-- where a value may be void, an object has one all the same
abbrev pub unread_fault : List Structure → Operand → Option Fault
unread_fault structs o = if is_valueless structs o.value then used_fault structs o else None

-- ---- implied conversions, which stand where their operand does

-- to a type, if it isn't that of the value already
abbrev pub converted : CType → unit.Expr → unit.Expr
converted type e =
    if same_value_type type (type_of e) then e else unit.Convert Implied (unqualified type) e (expr_mark e)

abbrev pub integer_type : Basic → CType
integer_type basic = plain (Integer basic)

-- the integer type of a value
abbrev pub basic_in : unit.Expr → Basic
basic_in e = basic_of (form_of e)

abbrev pub promoted_type : unit.Expr → CType
promoted_type e = integer_type (promoted (basic_in e))

abbrev pub promoted_value : unit.Expr → unit.Expr
promoted_value e = converted (promoted_type e) e

-- the type of the usual conversions of two integers
abbrev pub common_type : unit.Expr → unit.Expr → CType
common_type a b = integer_type (common (basic_in a) (basic_in b))

abbrev pub are_integers : Form → Form → Bool
are_integers f g = is_integer f && is_integer g

-- an operation on two integers in that type
abbrev pub in_common_type : BinOp → Mark → (a b : unit.Expr) → unit.Expr
in_common_type op mark a b = unit.Binary op (converted (common_type a b) a) (converted (common_type a b) b) mark
