-- Units of a few lines in which each operator stands beside calls, whose order the outside sees.
use Rattle.std.specs.Prelude.{ℕ, ℤ, pos, Bool, true, false, List, [], ◌∷◌, ◌++◌, Option, Some, None, codes}
use Rattle.model_types.specs.declared.numbers.Basic.TheVariants.{Bool as bool, Char, Long, Unsigned}
use Rattle.model_types.specs.declared.numbers.BinOp.TheVariants.{Mul, Add, Sub, Less, ShiftLeft, Equal}
use Rattle.model_types.specs.declared.operators.UnaryOp.TheVariants.{Minus, Complement, Not}
use Rattle.model_types.specs.declared.operators.LogicOp.TheVariants.{And, Or}
use Rattle.model_types.specs.declared.operators.StepOp.TheVariants.{Increment, Decrement}
use Rattle.model_types.specs.declared.operators.StepSide.TheVariants.{Prefix, Postfix}
use Rattle.model_types.specs.declared.marks.Origin.TheVariants.{Written, Implied}
use Rattle.model_types.specs.Types.{CType, Integer}
use Rattle.model_core.specs.CoreTypes.{int_type, plain, pointer_to}
use Rattle.model_core.specs.Core.{Core, Expr, Unary, Logic, Choice, Convert, Comma, Assign, Compound, Step, Address, Lvalue, Object, Deref, Index, Stat, no_stat, a_stat, DeclaredObject}
use Rattle.c_model.specs.ExampleParts.{nowhere, no_mark, number, int_variable, variable, load, binary, assigned, call, evaluate, start, block, return, automatic, function, unit}
use Rattle.c_model.specs.ExampleFaults.{array_of}
use Rattle.c_model.specs.Examples.{int_int}
use Rattle.c_model.specs.ExampleList.{int_void}

-- int note(int c), which the outside answers
abbrev pub note : ℕ → Expr
note c = call 1 int_int (number c ∷ [])

-- int note(int c); int main(void) { .. } with these objects
abbrev pub in_main : List DeclaredObject → (ids : List ℕ) → List Stat → Core
in_main objects ids body =
    unit objects
    (function 1 (codes "note") int_int [] no_stat ∷ function 2 (codes "main") int_void [] (a_stat (block ids body)) ∷ [])

abbrev x : Lvalue
x = int_variable 3

abbrev one_int : List DeclaredObject
one_int = automatic 3 int_type ∷ []

-- int x = 5; x = x + note(1) * note(2) - x; return x;
abbrev pub sums : Core
sums = in_main one_int (3 ∷ [])
    (start 3 int_type (number 5)
    ∷ evaluate (assigned x (binary Sub (binary Add (load x) (binary Mul (note 1) (note 2))) (load x)))
    ∷ return (load x) ∷ [])

-- int x = 5; x += (x = 7, note(1)); return x++ * 10 + x;
abbrev pub compound : Core
compound = in_main one_int (3 ∷ [])
    (start 3 int_type (number 5)
    ∷ evaluate (Assign (Compound Add int_type) x (Comma (assigned x (number 7)) (note 1) no_mark) no_mark)
    ∷ return (binary Add (binary Mul (Step Increment Postfix int_type x no_mark) (number 10)) (load x)) ∷ [])

-- return (note(1) && note(2)) * 100 + (note(3) || note(4)) * 10 + !note(5);
abbrev pub logic : Core
logic = in_main [] []
    (return (binary Add
    (binary Add (binary Mul (Logic And (note 1) (note 2) no_mark) (number 100)) (binary Mul (Logic Or (note 3) (note 4) no_mark) (number 10)))
    (Unary Not (note 5) no_mark)) ∷ [])

-- return note(1) ? note(2) : -note(3);
abbrev pub choice : Core
choice = in_main [] [] (return (Choice (note 1) (note 2) (Unary Minus (note 3) no_mark) no_mark) ∷ [])

abbrev a : Lvalue
a = variable 3 (array_of int_type 2)

abbrev element : Expr → Lvalue
element rank = Index false (Address Implied a no_mark) rank no_mark

-- int a[2]; a[note(0)] = note(1); a[note(2)] = a[0]--; return a[0] * 10 + a[1];
abbrev pub elements : Core
elements = in_main (automatic 3 (array_of int_type 2) ∷ []) (3 ∷ [])
    (evaluate (assigned (element (note 0)) (note 1))
    ∷ evaluate (assigned (element (note 2)) (load (element (number 0))))
    ∷ evaluate (Step Decrement Postfix int_type (element (number 0)) no_mark)
    ∷ return (binary Add (binary Mul (load (element (number 0))) (number 10)) (load (element (number 1)))) ∷ [])

abbrev bool_type : CType
bool_type = plain (Integer bool)

abbrev char_type : CType
char_type = plain (Integer Char)

abbrev promoted : Lvalue → Expr
promoted object = Convert Implied int_type (load object) no_mark

-- bool b = note(1); char c = 300; return b * 1000 + c * 2 + (b ? c : ~c);
abbrev pub conversions : Core
conversions = in_main (automatic 3 bool_type ∷ automatic 4 char_type ∷ []) (3 ∷ 4 ∷ [])
    (start 3 bool_type (Convert Implied bool_type (note 1) no_mark)
    ∷ start 4 char_type (Convert Implied char_type (number 300) no_mark)
    ∷ return (binary Add
    (binary Add (binary Mul (promoted (variable 3 bool_type)) (number 1000)) (binary Mul (promoted (variable 4 char_type)) (number 2)))
    (Choice (load (variable 3 bool_type)) (promoted (variable 4 char_type)) (Unary Complement (promoted (variable 4 char_type)) no_mark) no_mark)) ∷ [])

abbrev p : Lvalue
p = variable 4 (pointer_to int_type)

-- int x = 1; int *p = &x; *p += note(1); x = *p + (*p = 9); return x * 2 + *p;
abbrev pub pointers : Core
pointers = in_main (record (automatic 3 int_type) { is_address_taken = true } ∷ automatic 4 (pointer_to int_type) ∷ []) (3 ∷ 4 ∷ [])
    (start 3 int_type (number 1)
    ∷ start 4 (pointer_to int_type) (Address Written x no_mark)
    ∷ evaluate (Assign (Compound Add int_type) (Deref (load p) no_mark) (note 1) no_mark)
    ∷ evaluate (assigned x (binary Add (load (Deref (load p) no_mark)) (assigned (Deref (load p) no_mark) (number 9))))
    ∷ return (binary Add (binary Mul (load x) (number 2)) (load (Deref (load p) no_mark))) ∷ [])
