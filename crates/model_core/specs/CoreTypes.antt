-- The types of a core's expressions and objects (ISO/IEC 9899:2024, 6.3.3, 6.5), by their parts.
use Rattle.std.specs.Prelude.{ℕ, Bool, true, false, if◌then◌else◌, List, [], ◌∷◌}
use Rattle.std.specs.Option.{unwrap_or}
use Rattle.model_types.specs.declared.numbers.Basic.{Basic}
use Rattle.model_types.specs.declared.numbers.Basic.TheVariants.{Int, Long}
use Rattle.model_types.specs.declared.numbers.BinOp.{BinOp}
use Rattle.model_types.specs.declared.numbers.BinOp.TheVariants.{Sub}
use Rattle.model_types.specs.declared.operators.UnaryOp.{UnaryOp}
use Rattle.model_types.specs.declared.operators.UnaryOp.TheVariants.{Not}
use Rattle.model_types.specs.declared.marks.Origin.{Origin}
use Rattle.model_types.specs.declared.marks.Origin.TheVariants.{Written, Implied}
use Rattle.model_types.specs.declared.types.Quals.{Quals}
use Rattle.model_types.specs.Conversions.{is_comparison}
use Rattle.model_types.specs.Types.{CType, typed, Form, Void, Integer, Enum, Pointer, Array, Function, form_of_type}
use Rattle.model_types.specs.Structures.{Structure}
use Rattle.model_types.specs.Layout.{size_of}
use Rattle.model_types.specs.Shapes.{Shape, IntegerShape, PointerShape, StructShape}
use Rattle.model_core.specs.Core as unit

abbrev pub no_quals : Quals
no_quals = record { has_const = false; has_restrict = false; has_owner = false; has_view = false; has_opt = false }

abbrev pub plain : Form → CType
plain form = typed form no_quals

abbrev pub int_type : CType
int_type = plain (Integer Int)

-- the unqualified version of a type: that of a value; the qualifiers of an array are those of its elements
-- (6.7.4.1)
abbrev pub unqualified : CType → CType
unqualified (typed (Array type count) quals) = plain (Array (unqualified type) count)
unqualified (typed form quals) = plain form

abbrev pub pointer_to : CType → CType
pointer_to type = plain (Pointer type)

-- what a pointer points to; of another form, itself
abbrev pub pointee : Form → CType
pointee (Pointer type) = type
pointee form = plain form

-- what an array has as elements; of another form, itself
abbrev pub element : CType → CType
element (typed (Array type count) quals) = type
element type = type

-- what a function gives
abbrev pub result_of_form : Form → CType
result_of_form (Function result parameters variadic) = result
result_of_form form = plain form

abbrev pub is_pointer : Form → Bool
is_pointer (Pointer type) = true
is_pointer _ = false

abbrev pub is_void : CType → Bool
is_void (typed Void quals) = true
is_void _ = false

-- the type of a sum or difference with a pointer, or of an operation in the type of its left operand
abbrev pub operated : BinOp → CType → CType → CType
operated Sub left right = if is_pointer (form_of_type left) then (if is_pointer (form_of_type right) then plain (Integer Long) else left) else left
operated op left right = if is_pointer (form_of_type right) then right else left

abbrev pub binary_type : BinOp → CType → CType → CType
binary_type op left right = if is_comparison op then int_type else operated op left right

abbrev pub unary_type : UnaryOp → CType → CType
unary_type Not operand = int_type
unary_type op operand = operand

-- the address of an object; of an array that decays, of its first element
abbrev pub address_type : Origin → CType → CType
address_type Written type = pointer_to type
address_type Implied type = pointer_to (element type)

abbrev pub called_type : Form → CType
called_type function = unqualified (result_of_form (form_of_type (pointee function)))

abbrev mutual
  -- the type of an expression's value
  pub type_of : unit.Expr → CType
  type_of (unit.Constant value type mark) = type
  type_of (unit.Load object mark) = unqualified (object_type object)
  type_of (unit.Address origin object mark) = address_type origin (object_type object)
  type_of (unit.FunctionRef id type by_name mark) = pointer_to type
  type_of (unit.Unary op operand mark) = unary_type op (type_of operand)
  type_of (unit.Binary op left right mark) = binary_type op (type_of left) (type_of right)
  type_of (unit.Logic op left right mark) = int_type
  type_of (unit.Choice condition first second mark) = type_of first
  type_of (unit.Convert origin type operand mark) = type
  type_of (unit.Call function arguments mark) = called_type (form_of_type (type_of function))
  type_of (unit.Assign assignment object value mark) = unqualified (object_type object)
  type_of (unit.Step op side type object mark) = unqualified (object_type object)
  type_of (unit.MemberValue structure rank type name mark) = unqualified type
  type_of (unit.Comma first second mark) = type_of second

  -- the type of the object that an lvalue designates, with its qualifiers
  pub object_type : unit.Lvalue → CType
  object_type (unit.Object id type mark) = type
  object_type (unit.Deref pointer mark) = pointee (form_of_type (type_of pointer))
  object_type (unit.Index is_second first second mark) = pointee (form_of_type (if is_second then type_of second else type_of first))
  object_type (unit.Field structure rank type name mark) = type
  object_type (unit.Arrow pointer rank type name mark) = type
  object_type (unit.Literal origin id type values mark) = type

abbrev pub types_of : unit.Exprs → List CType
types_of unit.no_exprs = []
types_of (unit.more_exprs e es) = type_of e ∷ types_of es

-- the integer type of a form; int, where it is none
abbrev pub basic_of : Form → Basic
basic_of (Integer basic) = basic
basic_of (Enum basic order) = basic
basic_of _ = Int

-- the size of a complete type
abbrev pub size_in : List Structure → CType → ℕ
size_in structs type = unwrap_or (size_of structs type) 0

-- how an object of a type is loaded and stored
abbrev pub shape_of : List Structure → CType → Shape
shape_of structs (typed (Integer basic) quals) = IntegerShape basic
shape_of structs (typed (Enum basic order) quals) = IntegerShape basic
shape_of structs (typed (Pointer type) quals) = PointerShape
shape_of structs type = StructShape (size_in structs type)

-- the size of what a pointer points to
abbrev pub element_size : List Structure → CType → ℕ
element_size structs pointer = size_in structs (pointee (form_of_type pointer))

-- of two operands, the size of what the pointer among them points to; 1 of integers
abbrev pub step_size : List Structure → CType → CType → ℕ
step_size structs left right =
    if is_pointer (form_of_type left) then element_size structs left
    else if is_pointer (form_of_type right) then element_size structs right else 1
