-- Operators and conversions on values, shared by the runs of units and of texts (ISO/IEC 9899:2024, 6.3,
-- 6.5.4.3 to 6.5.15).
use Rattle.std.specs.Prelude.{ℕ, ℤ, pos, Bool, true, false, not, Result, Ok, Err}
use Rattle.std.specs.Ordering.{int_eq}
use Rattle.model_types.specs.declared.numbers.Basic.{Basic}
use Rattle.model_types.specs.declared.numbers.Basic.TheVariants.{Bool as bool}
use Rattle.model_types.specs.declared.numbers.BinOp.{BinOp}
use Rattle.model_types.specs.declared.operators.UnaryOp.{UnaryOp}
use Rattle.model_types.specs.declared.operators.UnaryOp.TheVariants.{Not}
use Rattle.model_types.specs.declared.outcomes.Cause.{Cause}
use Rattle.model_types.specs.declared.outcomes.Cause.TheVariants.{Kind}
use Rattle.model_types.specs.Operations.{operate, convert, truth, on_number}
use Rattle.model_runs.specs.Memory.{Scalar, Number, Null, Address, Code}
use Rattle.model_runs.specs.Pointers.{on_pointers, on_pointer}

abbrev pub as_number : Result ℤ Cause → Result Scalar Cause
as_number (Ok number) = Ok (Number number)
as_number (Err cause) = Err cause

-- a binary operator: on integers it is done in their type, on pointers by the size of their elements
abbrev pub applied : BinOp → Basic → (element : ℕ) → Scalar → Scalar → Result Scalar Cause
applied op basic element (Number left) (Number right) = as_number (operate op basic left right)
applied op basic element (Number left) right = on_pointer op element right left
applied op basic element left (Number right) = on_pointer op element left right
applied op basic element left right = on_pointers op element left right

-- a scalar is not zero and not null
abbrev pub is_true : Scalar → Bool
is_true (Number value) = not (int_eq value (pos 0))
is_true Null = false
is_true (Address block offset) = true
is_true (Code function) = true

abbrev pub truth_value : Bool → Scalar
truth_value b = Number (truth b)

abbrev pub on_address : UnaryOp → Scalar → Result Scalar Cause
on_address Not pointer = Ok (truth_value (not (is_true pointer)))
on_address _ pointer = Err Kind

-- a unary operator: a pointer has `!` alone
abbrev pub applied_unary : UnaryOp → Basic → Scalar → Result Scalar Cause
applied_unary op basic (Number value) = as_number (on_number op basic value)
applied_unary op basic pointer = on_address op pointer

-- what a scalar is converted to
pub data Target : Type 0 where
  ToInteger : (basic : Basic) → Target
  ToPointer : Target

abbrev pub pointer_to_integer : Basic → Scalar → Scalar
pointer_to_integer bool pointer = truth_value (is_true pointer)
pointer_to_integer _ pointer = pointer

-- a conversion of scalars: an integer that becomes a pointer is a null constant, a pointer that becomes
-- an integer becomes a bool
abbrev pub converted : Target → Scalar → Scalar
converted (ToInteger basic) (Number value) = Number (convert basic value)
converted (ToInteger basic) pointer = pointer_to_integer basic pointer
converted ToPointer (Number value) = Null
converted ToPointer pointer = pointer
