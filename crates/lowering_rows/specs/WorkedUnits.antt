-- Units with a string, with a pointer to a function, and with an array of static storage that has few values.
use Rattle.std.specs.Prelude.{ℕ, pos, true, false, List, [], ◌∷◌, Some, None, codes}
use Rattle.model_types.specs.declared.numbers.BinOp.TheVariants.{Mul, Add}
use Rattle.model_types.specs.declared.numbers.Basic.TheVariants.{Char}
use Rattle.model_types.specs.declared.marks.Origin.TheVariants.{Implied}
use Rattle.model_types.specs.declared.types.Quals.{Quals}
use Rattle.model_types.specs.Types.{CType, typed, Integer}
use Rattle.model_core.specs.CoreTypes.{int_type, plain, no_quals, pointer_to}
use Rattle.model_core.specs.Core.{Core, DeclaredObject, Expr, Load, Address, Convert, FunctionRef, Call, exprs, Lvalue, Index, Text, Static, Initials, no_initials, more_initials, no_stat, a_stat, Parameter}
use Rattle.c_model.specs.ExampleParts.{no_mark, number, int_variable, variable, load, binary, call, evaluate, start, block, return, function_type, automatic, stored_as, function, unit}
use Rattle.c_model.specs.ExampleFaults.{array_of}
use Rattle.c_model.specs.Examples.{int_int}
use Rattle.c_model.specs.ExampleList.{int_void}

abbrev char_type : CType
char_type = plain (Integer Char)

abbrev const_char : CType
const_char = typed (Integer Char) (record no_quals { has_const = true })

abbrev text_pointer : CType
text_pointer = pointer_to const_char

-- the six characters of a string, with their zero
abbrev letters : Lvalue
letters = variable 3 (array_of char_type 6)

-- int puts(const char *s); int main(void) { return puts("??/A1"); }
abbrev pub text : Core
text =
    unit (stored_as (Text (codes "??/A1")) (automatic 3 (array_of char_type 6)) ∷ [])
    (function 1 (codes "puts") (function_type int_type (text_pointer ∷ [])) [] no_stat
    ∷ function 2 (codes "main") int_void [] (a_stat (block [] (
    return (call 1 (function_type int_type (text_pointer ∷ [])) (Convert Implied text_pointer (Address Implied letters no_mark) no_mark ∷ [])) ∷ [])))
    ∷ [])

abbrev pointer : Lvalue
pointer = variable 4 (pointer_to int_int)

-- static int f(int a) { return a + 1; } int main(void) { int (*p)(int) = f; return p(41); }
abbrev pub by_pointer : Core
by_pointer =
    unit (stored_as Parameter (automatic 3 int_type) ∷ automatic 4 (pointer_to int_int) ∷ [])
    (record (function 1 (codes "f") int_int (3 ∷ []) (a_stat (block [] (return (binary Add (load (int_variable 3)) (number 1)) ∷ [])))) { is_external = false }
    ∷ function 2 (codes "main") int_void [] (a_stat (block (4 ∷ [])
    (start 4 (pointer_to int_int) (FunctionRef 1 int_int true no_mark)
    ∷ return (Call (load pointer) (exprs (number 41 ∷ [])) no_mark) ∷ [])))
    ∷ [])

abbrev few_values : Initials
few_values = more_initials (1 ∷ []) 4 int_type (number 5) (more_initials (3 ∷ []) 12 int_type (number 7) no_initials)

abbrev element : (rank : ℕ) → Lvalue
element rank = Index false (Address Implied (variable 3 (array_of int_type 6)) no_mark) (number rank) no_mark

-- static int a[6] = {[1] = 5, [3] = 7}; int main(void) { return a[1] * 100 + a[3] * 10 + a[5]; }
abbrev pub static_array : Core
static_array =
    unit (stored_as (Static few_values) (automatic 3 (array_of int_type 6)) ∷ [])
    (function 2 (codes "main") int_void [] (a_stat (block [] (
    return (binary Add (binary Add (binary Mul (load (element 1)) (number 100)) (binary Mul (load (element 3)) (number 10))) (load (element 5))) ∷ [])))
    ∷ [])
