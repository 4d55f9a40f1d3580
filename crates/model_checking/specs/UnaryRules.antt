-- Unary operators (ISO/IEC 9899:2024, 6.5.3.5, 6.5.4.1 to 6.5.4.4).
use Rattle.std.specs.Prelude.{ℕ, Bool, false, ◌&&◌, not, if◌then◌else◌, List, [], ◌∷◌, ◌++◌, Option, None, Result, Ok}
use Rattle.cake_base.specs.declared.places.Place.{Place}
use Rattle.cake_base.specs.declared.rules.Fault.{Fault}
use Rattle.model_types.specs.declared.numbers.Basic.TheVariants.{Int}
use Rattle.model_types.specs.declared.operators.UnaryOp.TheVariants as op
use Rattle.model_types.specs.declared.operators.StepOp.{StepOp}
use Rattle.model_types.specs.declared.operators.StepSide.{StepSide}
use Rattle.model_types.specs.declared.operators.StepSide.TheVariants.{Prefix, Postfix}
use Rattle.model_types.specs.declared.marks.Mark.{Mark}
use Rattle.model_types.specs.declared.marks.Origin.TheVariants.{Written}
use Rattle.model_types.specs.Types.{CType}
use Rattle.model_types.specs.Structures.{Structure}
use Rattle.model_types.specs.Layout.{is_complete}
use Rattle.model_types.specs.Conversions.{common}
use Rattle.model_grammar.specs.declared.syntax.PrefixOp.{PrefixOp}
use Rattle.model_grammar.specs.declared.syntax.PrefixOp.TheVariants as prefix
use Rattle.model_core.specs.CoreTypes.{unqualified, object_type, is_pointer, is_void, basic_of}
use Rattle.model_core.specs.SameTypes.{is_integer}
use Rattle.model_core.specs.TypedParts.{is_array, is_scalar, is_function_pointer}
use Rattle.model_core.specs.TypedExpr.{object_form}
use Rattle.model_core.specs.MemberTypes.{is_const_somewhere}
use Rattle.model_core.specs.Core as unit
use Rattle.model_checking.specs.State.{Use, Evaluated, State, breaks, unless}
use Rattle.model_checking.specs.Meanings.{Meaning, a_place, a_value, a_function, a_target, Operand}
use Rattle.model_checking.specs.Faults.{wants, or_fault}
use Rattle.model_checking.specs.MadeCore.{operand, operand_form, promoted_value, integer_type}
use Rattle.model_checking.specs.HeldValues.{is_held}
use Rattle.model_checking.specs.PointerRules.{points_to_object, moved_fault}

-- ---- `&`: C11 where the operand is neither an object nor a function; an array of a structure's value is none, and an
-- lvalue isn't of type void

abbrev pub address : Mark → (first : Place) → Meaning → Result Meaning Fault
address mark first (a_place object known) =
    unless (wants (not (is_held object) && not (is_void (object_type object))) first 11) (Ok (a_value (unit.Address Written object mark)))
address mark first (a_value value) = breaks first 11
address mark first (a_function id type by_name at) = Ok (a_value (unit.FunctionRef id type false at))
address mark first (a_target pointer) = Ok (a_value pointer)

-- the object itself, whose address is taken
abbrev pub taken_object : unit.Lvalue → List ℕ
taken_object (unit.Object id type mark) = id ∷ []
taken_object _ = []

abbrev pub taken : Use → PrefixOp → Meaning → List ℕ
taken Evaluated prefix.Address (a_place object known) = taken_object object
taken _ _ _ = []

-- the state in which the address is noted, where the part is evaluated
abbrev pub note_taken : Use → PrefixOp → Meaning → State → State
note_taken usage op m s = record s { taken = s.taken ++ taken usage op m }

-- ---- `*`: C12 where the operand points to no complete object and to no function

abbrev pub followed : List Structure → Mark → Operand → Result Meaning Fault
followed structs mark o =
    if is_function_pointer (operand_form o) then Ok (a_target o.value)
    else unless (wants (points_to_object structs (operand_form o)) o.first 12) (Ok (a_place (unit.Deref o.value mark) None))

-- a function is followed to itself, no longer by its name alone
abbrev pub indirection : List Structure → Mark → (first : Place) → Meaning → Result Meaning Fault
indirection structs mark first (a_place object known) = followed structs mark (operand first (a_place object known))
indirection structs mark first (a_value value) = followed structs mark (operand first (a_value value))
indirection structs mark first (a_function id type by_name at) = Ok (a_function id type false at)
indirection structs mark first (a_target pointer) = followed structs mark (operand first (a_target pointer))

-- ---- `+`, `-` and `~` of integers, and `!` of scalars: C09

abbrev pub on_integer : Mark → Operand → (unit.Expr → unit.Expr) → Result Meaning Fault
on_integer mark o make = unless (wants (is_integer (operand_form o)) mark.at 9) (Ok (a_value (make (promoted_value o.value))))

abbrev pub negation : Mark → Operand → Result Meaning Fault
negation mark o = unless (wants (is_scalar (operand_form o)) mark.at 9) (Ok (a_value (unit.Unary op.Not o.value mark)))

-- the prefix operators, with the first token of the operand
abbrev pub unary : List Structure → PrefixOp → Mark → (first : Place) → Meaning → Result Meaning Fault
unary structs prefix.Address mark first m = address mark first m
unary structs prefix.Indirection mark first m = indirection structs mark first m
unary structs prefix.Plus mark first m = on_integer mark (operand first m) (λ e. e)
unary structs prefix.Minus mark first m = on_integer mark (operand first m) (λ e. unit.Unary op.Minus e mark)
unary structs prefix.Complement mark first m = on_integer mark (operand first m) (λ e. unit.Unary op.Complement e mark)
unary structs prefix.Not mark first m = negation mark (operand first m)

-- ---- what may be changed: C10

abbrev pub is_modifiable : List Structure → Meaning → Bool
is_modifiable structs (a_place object known) =
    not (is_array (object_form object)) && is_complete structs (object_type object) && not (is_const_somewhere structs (object_type object))
is_modifiable structs (a_value value) = false
is_modifiable structs (a_function id type by_name mark) = false
is_modifiable structs (a_target pointer) = false

-- what is made of the object that is changed; only an object can be
abbrev pub of_object : (at : Place) → Meaning → (unit.Lvalue → unit.Expr) → Result Meaning Fault
of_object at (a_place object known) make = Ok (a_value (make object))
of_object at (a_value value) make = breaks at 10
of_object at (a_function id type by_name mark) make = breaks at 10
of_object at (a_target pointer) make = breaks at 10

-- ---- `++` and `--`: at the operator C09, where the operand is no integer and no pointer, and C10; at the operand C12

abbrev pub operator_fault : List Structure → (at : Place) → Meaning → Option Fault
operator_fault structs at m =
    or_fault (wants (is_scalar (operand_form (operand at m))) at 9) (wants (is_modifiable structs m) at 10)

-- the former of the two places counts
abbrev pub step_fault : List Structure → StepSide → (at first : Place) → Meaning → Option Fault
step_fault structs Prefix at first m = or_fault (operator_fault structs at m) (moved_fault structs (operand first m))
step_fault structs Postfix at first m = or_fault (moved_fault structs (operand first m)) (operator_fault structs at m)

-- the type in which 1 is added: that of the pointer, or that of a sum with an int
abbrev pub step_type : unit.Lvalue → CType
step_type object =
    if is_pointer (object_form object) then unqualified (object_type object)
    else integer_type (common (basic_of (object_form object)) Int)

abbrev pub step : List Structure → StepOp → StepSide → Mark → (first : Place) → Meaning → Result Meaning Fault
step structs op side mark first m =
    unless (step_fault structs side mark.at first m) (of_object mark.at m (λ object. unit.Step op side (step_type object) object mark))
