-- What the expressions of a C89 program do with the values of their operands (ISO/IEC 9899:1990, 6.2, 6.3):
-- a text's runs have no places.
use Rattle.std.specs.Prelude.{ℕ, pos, ◌*ℤ◌, Bool, true, false, ◌||◌, List, Option, Some, None, if◌then◌else◌}
use Rattle.model_types.specs.declared.numbers.Basic.{Basic}
use Rattle.model_types.specs.declared.numbers.Basic.TheVariants.{Int as int}
use Rattle.model_types.specs.declared.numbers.BinOp.{BinOp}
use Rattle.model_types.specs.declared.operators.UnaryOp.{UnaryOp}
use Rattle.model_types.specs.declared.operators.UnaryOp.TheVariants.{Minus, Complement}
use Rattle.model_types.specs.declared.outcomes.Cause.TheVariants.{Kind}
use Rattle.model_types.specs.Conversions.{promoted, operand_type, is_shift, is_comparison}
use Rattle.model_types.specs.Compatible.{same_basic}
use Rattle.model_core.specs.Types89.{Void, Type89, Based, Array}
use Rattle.model_runs.specs.Memory.{Scalar, Address, Value, Missing, Single, StructureValue}
use Rattle.model_runs.specs.Loads.{value_at}
use Rattle.model_runs.specs.Applied.{applied, applied_unary, is_true, truth_value, converted, ToInteger, ToPointer}
use Rattle.model_runs.specs.Accesses.{load_from}
use Rattle.model_runs.specs.Run.{Act, ◌▷◌, just, ends, unless_undefined, Undefined}
use Rattle.model_runs.specs.Operands.{Location, pointed_location, moved_location, index_value, just_scalar}
use Rattle.model_c89.specs.TargetLayout.{size_of, shape_of, member_of, found_type, found_rank, offset_of}
use Rattle.model_c89.specs.TargetTypes.{integer_type, basic_or_int, is_pointer, pointee}
use Rattle.model_c89.specs.TargetFrame.{Frame}
use Rattle.model_core.specs.Program89 as text

-- the member of a name
abbrev pub member_at : List text.Structure89 → Type89 → (name : List ℕ) → Location → Location
member_at structures type name location = moved_location (pos (offset_of structures type (found_rank (member_of structures type name)))) location

-- the element of an index
abbrev pub element_at : Frame → (pointer : Type89) → (base index : Scalar) → Act Location
element_at f pointer base index = pointed_location None base ▷ (λ l. just (moved_location (index_value index *ℤ pos (size_of f.program.structures (pointee pointer))) l))

-- the value of an object of a type: an array is its address
abbrev pub read_place : Frame → Type89 → Location → Act Value
read_place f (Array count of) l = just_scalar (Address l.block l.offset)
read_place f type l = load_from None (shape_of f.program.structures type) l.block l.offset

-- an integer of a type as one of another; of its own, it is as it is
abbrev pub between : (from to : Basic) → Scalar → Scalar
between from to scalar = if same_basic from to then scalar else converted (ToInteger to) scalar

abbrev pub scalar_as : (from to : Option Basic) → Scalar → Scalar
scalar_as (Some from) (Some to) scalar = between from to scalar
scalar_as None (Some to) scalar = converted (ToInteger to) scalar
scalar_as from None scalar = converted ToPointer scalar

-- a value of a type as one of another, as by an assignment or a cast
abbrev pub value_as : (from to : Type89) → Value → Value
value_as from (Based is_const Void) value = Missing
value_as from to (Single scalar) = Single (scalar_as (integer_type from) (integer_type to) scalar)
value_as from to value = value

-- an integer that meets a pointer in a comparison is a null constant
abbrev pub null_or : (is_comparison : Bool) → Type89 → Scalar → Scalar
null_or true other scalar = if is_pointer other then converted ToPointer scalar else scalar
null_or false other scalar = scalar

abbrev pub right_type : BinOp → Basic → Basic → Basic
right_type op left right = if is_shift op then promoted right else operand_type op left right

-- integers are converted to the type in which the operation is done
abbrev pub on_integers : BinOp → Basic → Basic → Scalar → Scalar → Act Scalar
on_integers op left right a b =
    unless_undefined None (applied op (operand_type op left right) 1 (between left (operand_type op left right) a) (between right (right_type op left right) b))

abbrev pub on_scalars : Frame → BinOp → (left right : Type89) → Scalar → Scalar → Act Scalar
on_scalars f op left right a b =
    unless_undefined None
    (applied op int (size_of f.program.structures (pointee (if is_pointer left then left else right))) (null_or (is_comparison op) right a) (null_or (is_comparison op) left b))

-- a binary operator on operands of these types
abbrev pub operated_on : Frame → BinOp → (left right : Type89) → Scalar → Scalar → Act Scalar
operated_on f op left right a b =
    if is_pointer left || is_pointer right then on_scalars f op left right a b
    else on_integers op (basic_or_int (integer_type left)) (basic_or_int (integer_type right)) a b

-- a unary operator on an integer, promoted
abbrev pub on_promoted : UnaryOp → Basic → Scalar → Act Scalar
on_promoted op basic a = unless_undefined None (applied_unary op (promoted basic) (between basic (promoted basic) a))

abbrev pub applied_prefix : text.Prefix → Type89 → Scalar → Act Scalar
applied_prefix text.Minus type a = on_promoted Minus (basic_or_int (integer_type type)) a
applied_prefix text.Complement type a = on_promoted Complement (basic_or_int (integer_type type)) a
applied_prefix text.Not type a = just (truth_value (if is_true a then false else true))
applied_prefix _ type a = ends (Undefined Kind None)

-- the value of a structure's member
abbrev pub member_value : Frame → (structure : Type89) → (name : List ℕ) → Value → Act Value
member_value f structure name (StructureValue cells) =
    unless_undefined None
    (value_at (shape_of f.program.structures (found_type (member_of f.program.structures structure name))) cells
    (offset_of f.program.structures structure (found_rank (member_of f.program.structures structure name))))
member_value f structure name value = ends (Undefined Kind None)
