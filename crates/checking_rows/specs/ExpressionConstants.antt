-- Constant expressions, and values of objects of static storage: what isn't built of integer constants, and what is
-- undefined.
use Rattle.std.specs.Prelude.{ℕ, pos, nat_eq, Option, Some, Result, Ok, Err}
use Rattle.cake_base.specs.declared.rules.Fault.{Fault}
use Rattle.model_types.specs.declared.numbers.Basic.TheVariants as basic
use Rattle.model_types.specs.declared.numbers.BinOp.TheVariants.{Add, Sub, Div, Equal}
use Rattle.model_types.specs.declared.operators.LogicOp.TheVariants.{And}
use Rattle.model_grammar.specs.declared.syntax.PrefixOp.TheVariants as prefix
use Rattle.model_types.specs.Types.{CType}
use Rattle.model_core.specs.CoreTypes.{int_type}
use Rattle.model_core.specs.Core as unit
use Rattle.model_scopes.specs.Declarations.{Value}
use Rattle.model_checking.specs.Meanings.{Meaning}
use Rattle.model_checking.specs.MadeCore as made
use Rattle.model_checking.specs.ConstantValues.{constant_of, static_fault}
use Rattle.model_checking.specs.UnaryRules.{unary}
use Rattle.model_checking.specs.BinaryRules.{binary, logic}
use Rattle.model_checking.specs.PointerRules.{index}
use Rattle.model_checking.specs.ChoiceRules.{choice, comma}
use Rattle.model_checking.specs.CastRules.{cast}
use Rattle.model_checking.specs.Conversion.{passed}
use Rattle.checking_rows.specs.InitializerParts.{at, mark, integer, array, char_pointer}
use Rattle.checking_rows.specs.ExpressionParts.{const, int_pointer, void_pointer, int_function, pair, structures, object, known, function, number, nullptr, operand}

abbrev pub constant_at_0 : Result Meaning Fault → Result Value Fault
constant_at_0 (Ok m) = constant_of (at 0) (made.value_of m)
constant_at_0 (Err fault) = Err fault

-- the objects 1 to 9 of the examples are static, and 10 is automatic
abbrev pub static_of : Result unit.Expr Fault → Option Fault
static_of (Ok e) = static_fault (λ id. nat_eq id 10) (at 0) e
static_of (Err fault) = Some fault

abbrev pub static_at_0 : (to : CType) → Result Meaning Fault → Option Fault
static_at_0 to (Err fault) = Some fault
static_at_0 to (Ok m) = static_of (passed structures (at 0) to (made.value_of m))

abbrev pub then_with : Result Meaning Fault → (Meaning → Result Meaning Fault) → Result Meaning Fault
then_with (Ok m) behind = behind m
then_with (Err fault) behind = Err fault

-- ---- integer constant expressions

-- (bool)nullptr
abbrev pub nullptr_as_bool : Result Meaning Fault
nullptr_as_bool = cast structures (mark 0) (integer basic.Bool) (operand nullptr 3)

-- nullptr == 0
abbrev pub nullptr_is_zero : Result Meaning Fault
nullptr_is_zero = binary structures Equal (mark 1) (operand nullptr 0) (operand (number (pos 0)) 2)

-- (0, 1)
abbrev pub comma_of_constants : Result Meaning Fault
comma_of_constants = comma structures (mark 2) (operand (number (pos 0)) 1) (operand (number (pos 1)) 3)

-- const int x = 1; x
abbrev pub const_object : Result Meaning Fault
const_object = Ok (object 1 (const int_type) 0)

-- constexpr int x = 0; x
abbrev pub known_object : Result Meaning Fault
known_object = Ok (known 1 (const int_type) 0)

-- 1 / 0
abbrev pub quotient : Result Meaning Fault
quotient = binary structures Div (mark 1) (operand (number (pos 1)) 0) (operand (number (pos 0)) 2)

-- 0 && 1 / 0
abbrev pub not_evaluated : Result Meaning Fault
not_evaluated = then_with quotient (λ m. logic structures And (mark 1) (operand (number (pos 0)) 0) (made.operand (at 2) m))

-- 1 && 1 / 0
abbrev pub evaluated : Result Meaning Fault
evaluated = then_with quotient (λ m. logic structures And (mark 1) (operand (number (pos 1)) 0) (made.operand (at 2) m))

-- int x; 0 && x
abbrev pub not_built_of_constants : Result Meaning Fault
not_built_of_constants = logic structures And (mark 1) (operand (number (pos 0)) 0) (operand (object 1 int_type) 2)

-- 2147483647 + 1
abbrev pub overflow : Result Meaning Fault
overflow = binary structures Add (mark 1) (operand (number (pos 2147483647)) 0) (operand (number (pos 1)) 2)

-- 1 ? 2 : 1 / 0
abbrev pub chosen : Result Meaning Fault
chosen = then_with quotient (λ m. choice structures (mark 1) (operand (number (pos 1)) 0) (operand (number (pos 2)) 2) (made.operand (at 4) m))

-- ---- values of static objects: int x, a[3], f(void); int y in the block

abbrev pub numbers : (order : ℕ) → Meaning
numbers order = object 2 (array 3 int_type) order

-- &x
abbrev pub address : Result Meaning Fault
address = unary structures prefix.Address (mark 0) (at 1) (object 1 int_type 1)

-- &y
abbrev pub automatic_address : Result Meaning Fault
automatic_address = unary structures prefix.Address (mark 0) (at 1) (object 10 int_type 1)

-- a
abbrev pub array_address : Result Meaning Fault
array_address = Ok (numbers 0)

-- f
abbrev pub function_address : Result Meaning Fault
function_address = Ok (function 3 int_function 0)

-- a + 1
abbrev pub sum : Result Meaning Fault
sum = binary structures Add (mark 1) (operand numbers 0) (operand (number (pos 1)) 2)

-- &a[1 / 0]
abbrev pub undefined_offset : Result Meaning Fault
undefined_offset =
    then_with quotient (λ m. then_with (index structures (mark 2) (operand numbers 1) (made.operand (at 3) m)) (λ e.
    unary structures prefix.Address (mark 0) (at 1) e))

-- &a[x]
abbrev pub unknown_offset : Result Meaning Fault
unknown_offset =
    then_with (index structures (mark 2) (operand numbers 1) (operand (object 1 int_type) 3)) (λ e. unary structures prefix.Address (mark 0) (at 1) e)

-- 1 ? &x : 0
abbrev pub chosen_address : Result Meaning Fault
chosen_address = then_with address (λ m. choice structures (mark 1) (operand (number (pos 1)) 0) (made.operand (at 2) m) (operand (number (pos 0)) 4))

-- (char *)&x
abbrev pub cast_address : Result Meaning Fault
cast_address = then_with address (λ m. cast structures (mark 0) char_pointer (made.operand (at 3) m))

-- &x == &x
abbrev pub compared_addresses : Result Meaning Fault
compared_addresses = then_with address (λ m. binary structures Equal (mark 1) (made.operand (at 0) m) (made.operand (at 2) m))

-- &x - &x
abbrev pub difference_of_addresses : Result Meaning Fault
difference_of_addresses = then_with address (λ m. binary structures Sub (mark 1) (made.operand (at 0) m) (made.operand (at 2) m))

-- constexpr int *p = nullptr; p
abbrev pub known_pointer : Result Meaning Fault
known_pointer = Ok (known 1 (const int_pointer) 0)

-- constexpr void *p = nullptr; p
abbrev pub known_void_pointer : Result Meaning Fault
known_void_pointer = Ok (known 1 (const void_pointer) 0)

-- struct pair s; s
abbrev pub structure_value : Result Meaning Fault
structure_value = Ok (object 1 pair 0)

-- *&x
abbrev pub loaded : Result Meaning Fault
loaded = then_with address (λ m. unary structures prefix.Indirection (mark 0) (at 1) m)
