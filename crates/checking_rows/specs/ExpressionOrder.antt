-- Which of several broken rules an expression's fault is: the one whose place comes first, and at one place the smallest.
use Rattle.std.specs.Prelude.{pos, Option, Result}
use Rattle.cake_base.specs.declared.rules.Fault.{Fault}
use Rattle.model_types.specs.declared.numbers.BinOp.TheVariants.{Add, Sub, Mul}
use Rattle.model_types.specs.declared.operators.LogicOp.TheVariants.{And}
use Rattle.model_types.specs.declared.operators.StepOp.TheVariants.{Increment}
use Rattle.model_types.specs.declared.operators.StepSide.TheVariants.{Prefix, Postfix}
use Rattle.model_grammar.specs.declared.syntax.PrefixOp.TheVariants as prefix
use Rattle.model_types.specs.Types.{no_types, more_types}
use Rattle.model_core.specs.CoreTypes.{int_type}
use Rattle.model_core.specs.Core as unit
use Rattle.model_checking.specs.Meanings.{Meaning}
use Rattle.model_checking.specs.UnaryRules.{unary, step}
use Rattle.model_checking.specs.BinaryRules.{left_fault, binary, logic}
use Rattle.model_checking.specs.PointerRules.{index}
use Rattle.model_checking.specs.CallRules.{call_fault, argument}
use Rattle.model_checking.specs.AssignRules.{assign_left, assign, assign_by}
use Rattle.model_checking.specs.ChoiceRules.{condition_fault, branch_fault, choice, comma_left, comma}
use Rattle.model_checking.specs.CastRules.{cast}
use Rattle.checking_rows.specs.InitializerParts.{at, mark, void_type}
use Rattle.checking_rows.specs.ExpressionParts.{const, int_pointer, void_pointer, int_function, function_of, pair, hidden, structures, object, function, number, void_call, operand, with_undeclared}

-- ---- y is undeclared

-- int f(void); f(y)
abbrev pub wrong_count : Option Fault
wrong_count = call_fault structures (at 1) (operand (function 1 int_function) 0) 1

-- void f(int *p, int n); f(1, y)
abbrev pub first_argument : Result unit.Expr Fault
first_argument = argument structures (more_types int_pointer (more_types int_type no_types)) (operand (number (pos 1)) 2)

-- struct pair a; a + y
abbrev pub sum_with_undeclared : Result Meaning Fault
sum_with_undeclared = with_undeclared (left_fault structures (operand (object 1 pair) 0)) 2

-- v() + y
abbrev pub void_with_undeclared : Result Meaning Fault
void_with_undeclared = with_undeclared (left_fault structures (operand void_call 0)) 4

-- 1 = y
abbrev pub number_gets_undeclared : Result Meaning Fault
number_gets_undeclared = with_undeclared (assign_left structures (mark 1) (number (pos 1) 0)) 2

-- 1 += y
abbrev pub number_gains_undeclared : Result Meaning Fault
number_gains_undeclared = with_undeclared (assign_left structures (mark 1) (number (pos 1) 0)) 2

-- extern void v; c ? v : y
abbrev pub void_object_or_undeclared : Result Meaning Fault
void_object_or_undeclared = with_undeclared (branch_fault structures (operand (object 1 void_type) 2)) 4

-- extern void v; v, y
abbrev pub void_object_then_undeclared : Result Meaning Fault
void_object_then_undeclared = with_undeclared (comma_left structures (operand (object 1 void_type) 0)) 2

-- struct pair a; a ? y : 1
abbrev pub structure_as_condition : Option Fault
structure_as_condition = condition_fault structures (at 1) (operand (object 1 pair) 0)

-- v() ? y : 1
abbrev pub void_as_condition : Option Fault
void_as_condition = condition_fault structures (at 3) (operand void_call 0)

-- ---- void operands: void v(void);

-- 1 + v()
abbrev pub void_on_the_right : Result Meaning Fault
void_on_the_right = binary structures Add (mark 1) (operand (number (pos 1)) 0) (operand void_call 2)

-- v() + 1
abbrev pub void_on_the_left : Result Meaning Fault
void_on_the_left = binary structures Add (mark 3) (operand void_call 0) (operand (number (pos 1)) 4)

-- v() && 1
abbrev pub void_and : Result Meaning Fault
void_and = logic structures And (mark 3) (operand void_call 0) (operand (number (pos 1)) 4)

-- v()[1]
abbrev pub void_element : Result Meaning Fault
void_element = index structures (mark 3) (operand void_call 0) (operand (number (pos 1)) 4)

-- (int)v()
abbrev pub void_cast : Result Meaning Fault
void_cast = cast structures (mark 0) int_type (operand void_call 3)

-- c ? v() : 1
abbrev pub void_or_number : Result Meaning Fault
void_or_number = choice structures (mark 1) (operand (object 1 int_type) 0) (operand void_call 2) (operand (number (pos 1)) 6)

-- *v()
abbrev pub void_followed : Result Meaning Fault
void_followed = unary structures prefix.Indirection (mark 0) (at 1) (void_call 1)

-- &v()
abbrev pub void_address : Result Meaning Fault
void_address = unary structures prefix.Address (mark 0) (at 1) (void_call 1)

-- v()()
abbrev pub void_called : Option Fault
void_called = call_fault structures (at 3) (operand void_call 0) 0

-- -v()
abbrev pub void_negated : Result Meaning Fault
void_negated = unary structures prefix.Minus (mark 0) (at 1) (void_call 1)

-- int x; x = v()
abbrev pub void_assigned : Result Meaning Fault
void_assigned = assign structures (mark 1) (object 1 int_type 0) (operand void_call 2)

-- void printf(..); an argument v() behind the parameters
abbrev pub void_behind_parameters : Result unit.Expr Fault
void_behind_parameters = argument structures no_types (operand void_call 2)

-- v() = 1
abbrev pub void_gets : Result Meaning Fault
void_gets = assign structures (mark 3) (void_call 0) (operand (number (pos 1)) 4)

-- v() += 1
abbrev pub void_gains : Result Meaning Fault
void_gains = assign_by structures Add (mark 3) (at 0) (void_call 0) (operand (number (pos 1)) 4)

-- v()++
abbrev pub void_stepped : Result Meaning Fault
void_stepped = step structures Increment Postfix (mark 3) (at 0) (void_call 0)

-- ---- extern void v; struct hidden; extern struct hidden h;

-- v, 1
abbrev pub void_object_first : Result Meaning Fault
void_object_first = comma structures (mark 1) (operand (object 1 void_type) 0) (operand (number (pos 1)) 2)

-- (void)v
abbrev pub void_object_cast : Result Meaning Fault
void_object_cast = cast structures (mark 0) void_type (operand (object 1 void_type) 3)

-- c ? v : 1
abbrev pub void_object_or_number : Result Meaning Fault
void_object_or_number = choice structures (mark 1) (operand (object 2 int_type) 0) (operand (object 1 void_type) 2) (operand (number (pos 1)) 4)

-- c ? v : v
abbrev pub void_objects : Result Meaning Fault
void_objects = choice structures (mark 1) (operand (object 2 int_type) 0) (operand (object 1 void_type) 2) (operand (object 1 void_type) 4)

-- (void)h
abbrev pub hidden_cast : Result Meaning Fault
hidden_cast = cast structures (mark 0) void_type (operand (object 1 hidden) 3)

-- &v
abbrev pub void_object_address : Result Meaning Fault
void_object_address = unary structures prefix.Address (mark 0) (at 1) (object 1 void_type 1)

-- &h
abbrev pub hidden_address : Result Meaning Fault
hidden_address = unary structures prefix.Address (mark 0) (at 1) (object 1 hidden 1)

-- ---- steps: void *const p;

-- p++
abbrev pub const_pointer_behind : Result Meaning Fault
const_pointer_behind = step structures Increment Postfix (mark 1) (at 0) (object 1 (const void_pointer) 0)

-- ++p
abbrev pub const_pointer_before : Result Meaning Fault
const_pointer_before = step structures Increment Prefix (mark 0) (at 1) (object 1 (const void_pointer) 1)

-- ++1
abbrev pub number_stepped : Result Meaning Fault
number_stepped = step structures Increment Prefix (mark 0) (at 1) (number (pos 1) 1)

-- struct pair a; a++
abbrev pub structure_stepped : Result Meaning Fault
structure_stepped = step structures Increment Postfix (mark 1) (at 0) (object 1 pair 0)

-- ---- assignments by an operator

-- struct pair a; 1 += a
abbrev pub number_gains_structure : Result Meaning Fault
number_gains_structure = assign_by structures Add (mark 1) (at 0) (number (pos 1) 0) (operand (object 1 pair) 2)

-- int x; int *p; x += p
abbrev pub number_gains_pointer : Result Meaning Fault
number_gains_pointer = assign_by structures Add (mark 1) (at 0) (object 1 int_type 0) (operand (object 2 int_pointer) 2)

-- int x; void *p; x += p
abbrev pub number_gains_void_pointer : Result Meaning Fault
number_gains_void_pointer = assign_by structures Add (mark 1) (at 0) (object 1 int_type 0) (operand (object 2 void_pointer) 2)

-- int *p, *q; p -= q
abbrev pub pointer_loses_pointer : Result Meaning Fault
pointer_loses_pointer = assign_by structures Sub (mark 1) (at 0) (object 1 int_pointer 0) (operand (object 2 int_pointer) 2)

-- int *p, *q; p += q
abbrev pub pointer_gains_pointer : Result Meaning Fault
pointer_gains_pointer = assign_by structures Add (mark 1) (at 0) (object 1 int_pointer 0) (operand (object 2 int_pointer) 2)

-- int x; int *p; x *= p
abbrev pub number_times_pointer : Result Meaning Fault
number_times_pointer = assign_by structures Mul (mark 1) (at 0) (object 1 int_type 0) (operand (object 2 int_pointer) 2)

-- ---- calls

-- struct hidden; void f(struct hidden); (f)()
abbrev pub hidden_parameter : Option Fault
hidden_parameter = call_fault structures (at 3) (record (operand (function 1 (function_of void_type (more_types hidden no_types))) 1) { first = at 0 }) 0

-- struct hidden f(void); f()
abbrev pub hidden_result : Option Fault
hidden_result = call_fault structures (at 1) (operand (function 1 (function_of hidden no_types)) 0) 0

-- int x; x(1)
abbrev pub number_called : Option Fault
number_called = call_fault structures (at 1) (operand (object 1 int_type) 0) 1
