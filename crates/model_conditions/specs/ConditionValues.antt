-- The values of conditions (ISO/IEC 9899:2024, 6.5.4.3 to 6.5.16, 6.6, 6.10.2): signed and unsigned
-- types act as those of 64 bits.
use Rattle.std.specs.Prelude.{ℤ, pos, Bool, true, false, ◌||◌, ◌&&◌, not, if◌then◌else◌, Option, Some, None, Result, Ok, Err}
use Rattle.std.specs.Ordering.{int_eq}
use Rattle.model_conditions.specs.declared.conditions.ConditionRule.{ConditionRule}
use Rattle.model_conditions.specs.declared.conditions.ConditionRule.TheVariants.{Undefined}
use Rattle.model_conditions.specs.declared.conditions.Infix.{Infix}
use Rattle.model_conditions.specs.declared.conditions.Infix.TheVariants.{Integer, Logic}
use Rattle.model_conditions.specs.declared.conditions.Prefix.{Prefix}
use Rattle.model_conditions.specs.declared.conditions.Prefix.TheVariants.{Plus, Minus, Complement, Not}
use Rattle.model_conditions.specs.declared.conditions.WideNumber.{WideNumber}
use Rattle.model_types.specs.declared.numbers.Basic.{Basic}
use Rattle.model_types.specs.declared.numbers.Basic.TheVariants.{Long, UnsignedLong}
use Rattle.model_types.specs.declared.numbers.BinOp.{BinOp}
use Rattle.model_types.specs.declared.operators.LogicOp.TheVariants.{And, Or}
use Rattle.model_types.specs.declared.operators.UnaryOp.TheVariants as on
use Rattle.model_types.specs.declared.outcomes.Cause.{Cause}
use Rattle.model_types.specs.Operations.{convert, truth, on_number}
use Rattle.model_types.specs.Conversions.{is_shift, is_comparison, converted_operation}
use Rattle.model_conditions.specs.ConditionGrammar.{Condition, constant, unary, binary, choice}

-- the type of 64 bits in which a part computes
abbrev pub wide : (unsigned : Bool) → Basic
wide true = UnsignedLong
wide false = Long

-- a part of a condition: whether it is unsigned, and its value, which it hasn't where it is undefined
pub record Valued : Type 0 where
  pub unsigned : Bool
  pub value : Option ℤ

-- a value that may be undefined
abbrev pub if_defined : Result ℤ Cause → Option ℤ
if_defined (Ok value) = Some value
if_defined (Err cause) = None

abbrev pub is_nonzero : ℤ → Bool
is_nonzero value = not (int_eq value (pos 0))

abbrev pub of_constant : WideNumber → Valued
of_constant n = record { unsigned = n.unsigned; value = Some (convert (wide n.unsigned) n.value) }

-- ---- unary operators

abbrev pub unary_value : Prefix → Basic → ℤ → Option ℤ
unary_value Plus t value = Some value
unary_value Minus t value = if_defined (on_number on.Minus t value)
unary_value Complement t value = if_defined (on_number on.Complement t value)
unary_value Not t value = if_defined (on_number on.Not t value)

abbrev pub unary_on : Prefix → Basic → Option ℤ → Option ℤ
unary_on op t None = None
unary_on op t (Some value) = unary_value op t value

-- `!` gives a signed number
abbrev pub unary_unsigned : Prefix → Bool → Bool
unary_unsigned Plus unsigned = unsigned
unary_unsigned Minus unsigned = unsigned
unary_unsigned Complement unsigned = unsigned
unary_unsigned Not unsigned = false

abbrev pub of_unary : Prefix → Valued → Valued
of_unary op e = record { unsigned = unary_unsigned op e.unsigned; value = unary_on op (wide e.unsigned) e.value }

-- ---- binary operators

-- a shift is done in the type of its left operand, another operation in the unsigned type where an operand is unsigned
abbrev pub operated_unsigned : BinOp → Bool → Bool → Bool
operated_unsigned op left right = if is_shift op then left else left || right

abbrev pub operated : BinOp → Basic → Option ℤ → Option ℤ → Option ℤ
operated op t None right = None
operated op t (Some left) None = None
operated op t (Some left) (Some right) = if_defined (converted_operation op t left right)

abbrev pub truth_of : Option ℤ → Option ℤ
truth_of None = None
truth_of (Some value) = Some (truth (is_nonzero value))

-- where the left operand decides, the right one isn't evaluated
abbrev pub and_value : Option ℤ → Option ℤ → Option ℤ
and_value None right = None
and_value (Some left) right = if is_nonzero left then truth_of right else Some (pos 0)

abbrev pub or_value : Option ℤ → Option ℤ → Option ℤ
or_value None right = None
or_value (Some left) right = if is_nonzero left then Some (pos 1) else truth_of right

-- a comparison, `&&` and `||` give a signed number
abbrev pub of_binary : Infix → Valued → Valued → Valued
of_binary (Integer op) l r = record {
  unsigned = not (is_comparison op) && operated_unsigned op l.unsigned r.unsigned;
  value = operated op (wide (operated_unsigned op l.unsigned r.unsigned)) l.value r.value;
}
of_binary (Logic And) l r = record { unsigned = false; value = and_value l.value r.value }
of_binary (Logic Or) l r = record { unsigned = false; value = or_value l.value r.value }

-- ---- the conditional operator

abbrev pub converted_to : Basic → Option ℤ → Option ℤ
converted_to t None = None
converted_to t (Some value) = Some (convert t value)

-- the operand that isn't chosen isn't evaluated
abbrev pub chosen_value : Option ℤ → Option ℤ → Option ℤ → Option ℤ
chosen_value None first second = None
chosen_value (Some test) first second = if is_nonzero test then first else second

-- both operands are converted to unsigned where one is
abbrev pub of_choice : Valued → Valued → Valued → Valued
of_choice c l r =
    let unsigned : Bool = l.unsigned || r.unsigned in
    record { unsigned = unsigned; value = chosen_value c.value (converted_to (wide unsigned) l.value) (converted_to (wide unsigned) r.value) }

-- ---- the whole

-- the value of a condition, from its parts
abbrev pub valued : Condition → Valued
valued (constant n) = of_constant n
valued (unary op e) = of_unary op (valued e)
valued (binary op l r) = of_binary op (valued l) (valued r)
valued (choice c l r) = of_choice (valued c) (valued l) (valued r)

-- whether a condition of that value holds
abbrev pub holds : Option ℤ → Result Bool ConditionRule
holds None = Err Undefined
holds (Some value) = Ok (is_nonzero value)
