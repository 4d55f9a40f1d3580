-- Pointers in expressions: what they point to, what agrees with what, and null pointer constants.
use Rattle.std.specs.Prelude.{ℕ, pos, [], ◌∷◌, Result, Ok, Err}
use Rattle.cake_base.specs.declared.rules.Fault.{Fault}
use Rattle.model_types.specs.declared.numbers.BinOp.TheVariants.{Add, Sub, Less, Equal}
use Rattle.model_types.specs.declared.numbers.Basic.TheVariants as basic
use Rattle.model_grammar.specs.declared.syntax.PrefixOp.TheVariants as prefix
use Rattle.model_types.specs.Types.{no_types, more_types}
use Rattle.model_core.specs.CoreTypes.{int_type, pointer_to}
use Rattle.model_core.specs.Core as unit
use Rattle.model_checking.specs.Meanings.{Meaning}
use Rattle.model_checking.specs.MadeCore.{value_of}
use Rattle.model_checking.specs.Conversion.{passed}
use Rattle.model_checking.specs.UnaryRules.{unary}
use Rattle.model_checking.specs.BinaryRules.{binary}
use Rattle.model_checking.specs.PointerRules.{index}
use Rattle.model_checking.specs.MemberRules.{arrow}
use Rattle.model_checking.specs.ChoiceRules.{choice}
use Rattle.model_checking.specs.CastRules.{cast}
use Rattle.model_checking.specs.SizeRules.{size_of_operand}
use Rattle.checking_rows.specs.InitializerParts.{at, mark, integer, char_type, char_pointer, void_type, array, unsized}
use Rattle.checking_rows.specs.ExpressionParts.{const, int_pointer, void_pointer, int_function, function_of, pair, hidden, structures, object, known, function, number, nullptr, cast_to, operand, named}

-- what a rule makes of the expression inside
abbrev pub then_unary : Result Meaning Fault → (Meaning → Result Meaning Fault) → Result Meaning Fault
then_unary (Ok m) behind = behind m
then_unary (Err fault) behind = Err fault

abbrev pub followed : Meaning → (order : ℕ) → Result Meaning Fault
followed m order = unary structures prefix.Indirection (mark order) (at order) m

abbrev pub address_of : Meaning → (order : ℕ) → Result Meaning Fault
address_of m order = unary structures prefix.Address (mark order) (at order) m

-- ---- what is pointed to

-- int *p; p->a
abbrev pub arrow_to_number : Result Meaning Fault
arrow_to_number = arrow structures (operand (object 1 int_pointer) 0) (named (97 ∷ []) 2) (mark 1)

-- struct hidden *p; p->a
abbrev pub arrow_to_hidden : Result Meaning Fault
arrow_to_hidden = arrow structures (operand (object 1 (pointer_to hidden)) 0) (named (97 ∷ []) 2) (mark 1)

-- int x; x->a
abbrev pub arrow_of_number : Result Meaning Fault
arrow_of_number = arrow structures (operand (object 1 int_type) 0) (named (97 ∷ []) 2) (mark 1)

-- void *p; *p
abbrev pub void_pointer_followed : Result Meaning Fault
void_pointer_followed = followed (object 1 void_pointer 1) 0

-- int (*p)[]; *p
abbrev pub array_without_length_followed : Result Meaning Fault
array_without_length_followed = followed (object 1 (pointer_to (unsized int_type)) 1) 0

-- void *p; p[1]
abbrev pub void_pointer_element : Result Meaning Fault
void_pointer_element = index structures (mark 1) (operand (object 1 void_pointer) 0) (operand (number (pos 1)) 2)

-- void *p; 1[p]
abbrev pub element_of_void_pointer : Result Meaning Fault
element_of_void_pointer = index structures (mark 1) (operand (number (pos 1)) 0) (operand (object 1 void_pointer) 2)

-- int x; x[1]
abbrev pub number_element : Result Meaning Fault
number_element = index structures (mark 1) (operand (object 1 int_type) 0) (operand (number (pos 1)) 2)

-- int a[3]; 1[a]
abbrev pub element_in_reverse : Result Meaning Fault
element_in_reverse = index structures (mark 1) (operand (number (pos 1)) 0) (operand (object 1 (array 3 int_type)) 2)

-- ---- functions and pointers to them: int f(void), (*p)(void);

abbrev pub function_pointer : (order : ℕ) → Meaning
function_pointer order = object 2 (pointer_to int_function) order

abbrev pub a_function_of_ints : (order : ℕ) → Meaning
a_function_of_ints order = function 1 int_function order

-- **f
abbrev pub function_followed_twice : Result Meaning Fault
function_followed_twice = then_unary (followed (a_function_of_ints 2) 1) (λ m. followed m 0)

-- **p
abbrev pub pointer_followed_twice : Result Meaning Fault
pointer_followed_twice = then_unary (followed (function_pointer 2) 1) (λ m. followed m 0)

-- &*p
abbrev pub address_of_followed : Result Meaning Fault
address_of_followed = then_unary (followed (function_pointer 2) 1) (λ m. address_of m 0)

-- sizeof *p
abbrev pub size_of_followed : Result Meaning Fault
size_of_followed = then_unary (followed (function_pointer 2) 1) (λ m. size_of_operand structures (mark 0) (at 1) m)

-- sizeof p
abbrev pub size_of_pointer : Result Meaning Fault
size_of_pointer = size_of_operand structures (mark 0) (at 1) (function_pointer 1)

-- p + 1
abbrev pub function_moved : Result Meaning Fault
function_moved = binary structures Add (mark 1) (operand function_pointer 0) (operand (number (pos 1)) 2)

-- p < p
abbrev pub functions_in_order : Result Meaning Fault
functions_in_order = binary structures Less (mark 1) (operand function_pointer 0) (operand function_pointer 2)

-- p < 0
abbrev pub function_before_null : Result Meaning Fault
function_before_null = binary structures Less (mark 1) (operand function_pointer 0) (operand (number (pos 0)) 2)

-- f == p
abbrev pub equal_functions : Result Meaning Fault
equal_functions = binary structures Equal (mark 1) (operand a_function_of_ints 0) (operand function_pointer 2)

-- void *q; f == q
abbrev pub function_is_void_pointer : Result Meaning Fault
function_is_void_pointer = binary structures Equal (mark 1) (operand a_function_of_ints 0) (operand (object 3 void_pointer) 2)

-- void *q; c ? f : q
abbrev pub function_or_void_pointer : Result Meaning Fault
function_or_void_pointer =
    choice structures (mark 1) (operand (object 4 int_type) 0) (operand a_function_of_ints 2) (operand (object 3 void_pointer) 4)

-- ---- pointers that agree

-- char **p; const char **q; p == q
abbrev pub deeper_qualifiers : Result Meaning Fault
deeper_qualifiers =
    binary structures Equal (mark 1) (operand (object 1 (pointer_to char_pointer)) 0) (operand (object 2 (pointer_to (pointer_to (const char_type)))) 2)

-- char *p; const char *q; p == q
abbrev pub nearest_qualifiers : Result Meaning Fault
nearest_qualifiers = binary structures Equal (mark 1) (operand (object 1 char_pointer) 0) (operand (object 2 (pointer_to (const char_type))) 2)

-- int *p; char *q; p - q
abbrev pub apart : Result Meaning Fault
apart = binary structures Sub (mark 1) (operand (object 1 int_pointer) 0) (operand (object 2 char_pointer) 2)

-- int *p; p - nullptr
abbrev pub apart_from_nullptr : Result Meaning Fault
apart_from_nullptr = binary structures Sub (mark 1) (operand (object 1 int_pointer) 0) (operand nullptr 2)

-- 1 - p
abbrev pub pointer_subtracted : Result Meaning Fault
pointer_subtracted = binary structures Sub (mark 1) (operand (number (pos 1)) 0) (operand (object 1 int_pointer) 2)

-- int *p; p < 0
abbrev pub before_zero : Result Meaning Fault
before_zero = binary structures Less (mark 1) (operand (object 1 int_pointer) 0) (operand (number (pos 0)) 2)

-- int *p; p < 1
abbrev pub before_one : Result Meaning Fault
before_one = binary structures Less (mark 1) (operand (object 1 int_pointer) 0) (operand (number (pos 1)) 2)

-- int *p; void *q; p < q
abbrev pub before_void_pointer : Result Meaning Fault
before_void_pointer = binary structures Less (mark 1) (operand (object 1 int_pointer) 0) (operand (object 2 void_pointer) 2)

-- int *p; void *q; p == q
abbrev pub is_void_pointer : Result Meaning Fault
is_void_pointer = binary structures Equal (mark 1) (operand (object 1 int_pointer) 0) (operand (object 2 void_pointer) 2)

-- nullptr == 0
abbrev pub nullptr_is_zero : Result Meaning Fault
nullptr_is_zero = binary structures Equal (mark 1) (operand nullptr 0) (operand (number (pos 0)) 2)

-- const int *p; void *q; c ? p : q
abbrev pub one_or_void : Result Meaning Fault
one_or_void =
    choice structures (mark 1) (operand (object 4 int_type) 0) (operand (object 1 (pointer_to (const int_type))) 2) (operand (object 2 void_pointer) 4)

-- int (*p)[]; const int (*q)[3]; c ? p : q
abbrev pub composite_arrays : Result Meaning Fault
composite_arrays =
    choice structures (mark 1) (operand (object 4 int_type) 0) (operand (object 1 (pointer_to (unsized int_type))) 2)
    (operand (object 2 (pointer_to (array 3 (const int_type)))) 4)

-- int *p; c ? p : 0
abbrev pub one_or_null : Result Meaning Fault
one_or_null = choice structures (mark 1) (operand (object 4 int_type) 0) (operand (object 1 int_pointer) 2) (operand (number (pos 0)) 4)

-- c ? 0 : nullptr
abbrev pub null_or_null : Result Meaning Fault
null_or_null = choice structures (mark 1) (operand (object 4 int_type) 0) (operand (number (pos 0)) 2) (operand nullptr 4)

-- int *p; c ? p : 1
abbrev pub one_or_number : Result Meaning Fault
one_or_number = choice structures (mark 1) (operand (object 4 int_type) 0) (operand (object 1 int_pointer) 2) (operand (number (pos 1)) 4)

-- ---- null pointer constants for `int (*p)(void)`

abbrev pub for_function_pointer : Meaning → Result unit.Expr Fault
for_function_pointer m = passed structures (at 2) (pointer_to int_function) (value_of m)

-- p = nullptr
abbrev pub takes_nullptr : Result unit.Expr Fault
takes_nullptr = for_function_pointer (nullptr 2)

-- p = 0
abbrev pub takes_zero : Result unit.Expr Fault
takes_zero = for_function_pointer (number (pos 0) 2)

-- p = (void *)0
abbrev pub takes_void_zero : Result unit.Expr Fault
takes_void_zero = for_function_pointer (cast_to void_pointer (number (pos 0) 2) 2)

-- p = (void *)nullptr
abbrev pub takes_cast_nullptr : Result unit.Expr Fault
takes_cast_nullptr = for_function_pointer (cast_to void_pointer (nullptr 2) 2)

-- constexpr void *np = nullptr; p = np
abbrev pub takes_known_pointer : Result unit.Expr Fault
takes_known_pointer = for_function_pointer (known 5 (const void_pointer) 2)

-- constexpr int z = 0; p = z
abbrev pub takes_known_number : Result unit.Expr Fault
takes_known_number = for_function_pointer (known 5 (const int_type) 2)

-- int z; p = z
abbrev pub takes_number : Result unit.Expr Fault
takes_number = for_function_pointer (object 5 int_type 2)

-- p = 1 - 1
abbrev pub takes_difference : Result unit.Expr Fault
takes_difference = passed structures (at 2) (pointer_to int_function) (unit.Binary Sub (value_of (number (pos 1) 2)) (value_of (number (pos 1) 4)) (mark 3))

-- p = 1
abbrev pub takes_one : Result unit.Expr Fault
takes_one = for_function_pointer (number (pos 1) 2)

-- ---- casts

-- (long)p, int *p
abbrev pub pointer_to_number : Result Meaning Fault
pointer_to_number = cast structures (mark 0) (integer basic.Long) (operand (object 1 int_pointer) 3)

-- (bool)p, int *p
abbrev pub pointer_to_bool : Result Meaning Fault
pointer_to_bool = cast structures (mark 0) (integer basic.Bool) (operand (object 1 int_pointer) 3)

-- (int *)1
abbrev pub number_to_pointer : Result Meaning Fault
number_to_pointer = cast structures (mark 0) int_pointer (operand (number (pos 1)) 3)

-- (int *)0
abbrev pub zero_to_pointer : Result Meaning Fault
zero_to_pointer = cast structures (mark 0) int_pointer (operand (number (pos 0)) 3)

-- (void *)f
abbrev pub function_to_void_pointer : Result Meaning Fault
function_to_void_pointer = cast structures (mark 0) void_pointer (operand a_function_of_ints 3)

-- (void (*)(int))f
abbrev pub function_to_function : Result Meaning Fault
function_to_function = cast structures (mark 0) (pointer_to (function_of void_type (more_types int_type no_types))) (operand a_function_of_ints 3)

-- (struct pair)a
abbrev pub to_structure : Result Meaning Fault
to_structure = cast structures (mark 0) pair (operand (object 1 pair) 3)
