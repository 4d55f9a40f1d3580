-- What the expressions of a unit do with the values of their operands (ISO/IEC 9899:2024, 6.3, 6.5).
use Rattle.std.specs.Prelude.{ℕ, ℤ, pos, List, if◌then◌else◌}
use Rattle.std.specs.Option.{unwrap_or}
use Rattle.model_types.specs.declared.numbers.BinOp.{BinOp}
use Rattle.model_types.specs.declared.numbers.BinOp.TheVariants.{Add, Sub}
use Rattle.model_types.specs.declared.operators.StepOp.{StepOp}
use Rattle.model_types.specs.declared.operators.StepOp.TheVariants.{Increment, Decrement}
use Rattle.model_types.specs.declared.operators.StepSide.{StepSide}
use Rattle.model_types.specs.declared.operators.StepSide.TheVariants.{Prefix, Postfix}
use Rattle.model_types.specs.declared.marks.Mark.{Mark}
use Rattle.model_types.specs.declared.outcomes.Cause.TheVariants.{Kind}
use Rattle.model_types.specs.Types.{CType, typed, Void, Integer, Enum, Pointer, form_of_type}
use Rattle.model_types.specs.declared.numbers.Basic.TheVariants.{Bool as bool}
use Rattle.model_types.specs.Operations.{convert}
use Rattle.model_types.specs.Structures.{Structure}
use Rattle.model_types.specs.Layout.{member_offset}
use Rattle.model_runs.specs.Memory.{Scalar, Number, Null, Value, Missing, Single, StructureValue}
use Rattle.model_runs.specs.Loads.{value_at}
use Rattle.model_runs.specs.Applied.{applied, converted, ToInteger, ToPointer}
use Rattle.model_runs.specs.Accesses.{load_from, store_to}
use Rattle.model_runs.specs.Run.{Act, ◌▷◌, just, ends, unless_undefined, Undefined}
use Rattle.model_core.specs.CoreTypes.{object_type, is_pointer, basic_of, shape_of, step_size}
use Rattle.model_core.specs.SourceMarks.{at_mark, lvalue_mark}
use Rattle.model_runs.specs.Operands.{Location, moved_location}
use Rattle.model_runs.specs.SourceFrame.{Frame}
use Rattle.model_core.specs.Core as unit

-- the member of a rank
abbrev pub member_at : List Structure → CType → (rank : ℕ) → Location → Location
member_at structs type rank location = moved_location (pos (unwrap_or (member_offset structs type rank) 0)) location

-- the value of a constant
abbrev pub constant : ℤ → CType → Scalar
constant value type = if is_pointer (form_of_type type) then Null else Number value

-- a scalar converted to a type
abbrev pub to_type : CType → Scalar → Scalar
to_type (typed (Pointer type) quals) scalar = converted ToPointer scalar
to_type type scalar = converted (ToInteger (basic_of (form_of_type type))) scalar

-- a value converted to a type: to void there is none, and a structure is its own
abbrev pub to_value : CType → Value → Value
to_value (typed Void quals) value = Missing
to_value type (Single scalar) = Single (to_type type scalar)
to_value type value = value

-- what a call gives: where its result is bool, 0 or 1
abbrev pub called_value : CType → Value → Value
called_value (typed (Integer bool) quals) (Single (Number value)) = Single (Number (convert bool value))
called_value (typed (Enum bool order) quals) (Single (Number value)) = Single (Number (convert bool value))
called_value type value = value

abbrev pub load_object : Frame → unit.Lvalue → Location → Act Value
load_object f object location = load_from (at_mark (lvalue_mark object)) (shape_of f.core.structs (object_type object)) location.block location.offset

-- stores a value, which is that of the assignment
abbrev pub store_object : Frame → unit.Lvalue → Location → Value → Act Value
store_object f object location value =
    store_to (at_mark (lvalue_mark object)) (shape_of f.core.structs (object_type object)) location.block location.offset value ▷ (λ u. just value)

-- a binary operator on operands of these types, in the type of the left one
abbrev pub operated_on : Frame → BinOp → Mark → (left right : CType) → Scalar → Scalar → Act Scalar
operated_on f op mark left right a b = unless_undefined (at_mark mark) (applied op (basic_of (form_of_type left)) (step_size f.core.structs left right) a b)

abbrev pub step_op : StepOp → BinOp
step_op Increment = Add
step_op Decrement = Sub

abbrev pub by_side : StepSide → (old new : Value) → Value
by_side Prefix old new = new
by_side Postfix old new = old

-- the values of a structure's member
abbrev pub member_value : Frame → Mark → (structure member : CType) → (rank : ℕ) → Value → Act Value
member_value f mark structure member rank (StructureValue cells) =
    unless_undefined (at_mark mark) (value_at (shape_of f.core.structs member) cells (unwrap_or (member_offset f.core.structs structure rank) 0))
member_value f mark structure member rank value = ends (Undefined Kind (at_mark mark))

-- the value of a compound assignment or of `++` and `--`: the old value, converted to the type in which it
-- is done, by the operator with the right value, converted back
abbrev pub stepped : Frame → BinOp → Mark → (done_in object right : CType) → (old value : Scalar) → Act Scalar
stepped f op mark done_in object right old value =
    operated_on f op mark done_in right (to_type done_in old) value ▷ (λ new. just (to_type object new))
