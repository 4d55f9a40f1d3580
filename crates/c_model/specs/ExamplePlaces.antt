-- Cores with two things at one place, and the order of a compound assignment.
use Rattle.std.specs.Prelude.{true, [], ◌∷◌, codes}
use Rattle.model_types.specs.declared.numbers.BinOp.{BinOp}
use Rattle.model_types.specs.declared.numbers.BinOp.TheVariants.{Add}
use Rattle.model_core.specs.CoreTypes.{int_type, pointer_to}
use Rattle.model_core.specs.Core.{Core, Expr, FunctionRef, Binary, Assign, Compound, Lvalue, Object, no_stat, a_stat}
use Rattle.c_model.specs.FirstUnit.{mark_at}
use Rattle.c_model.specs.ExampleParts.{at_column, no_mark, number, int_variable, load, binary, assigned, call, evaluate, block, return, automatic, global_int, function, unit}
use Rattle.c_model.specs.ExampleList.{int_void}
use Rattle.c_model.specs.ExampleReleases.{owner_at, owner_object}
use Rattle.c_model.specs.ExampleFaults.{doing, valued}

-- places

-- x, where the owner p of the examples of releases stands as well
abbrev pub int_at : Lvalue
int_at = Object 11 int_type (mark_at (at_column 5 1))

abbrev pub owner_there : Lvalue
owner_there = owner_at (at_column 5 1)

-- int x; char * _Owner _Opt p; x; p; at one place
abbrev pub two_at_one_place : Core
two_at_one_place = doing (owner_object ∷ automatic 11 int_type ∷ []) (10 ∷ 11 ∷ []) (evaluate (load int_at) ∷ evaluate (load owner_there) ∷ [])

-- x + 1, where the name of x stands
abbrev pub sum_there : Expr
sum_there = Binary Add (load int_at) (number 1) (mark_at (at_column 5 1))

-- int x; x + 1; at one place
abbrev pub operation_at_lvalue : Core
operation_at_lvalue = doing (automatic 11 int_type ∷ []) (11 ∷ []) (evaluate sum_there ∷ [])

-- order of operands

-- int x = 1; int f(void) { x = 10; return 5; } int main(void) { x += f(); return x; }
abbrev pub added_behind_call : Core
added_behind_call =
    unit (global_int 1 1 ∷ [])
    (function 2 (codes "f") int_void [] (a_stat (block [] (evaluate (assigned (int_variable 1) (number 10)) ∷ return (number 5) ∷ [])))
    ∷ function 3 (codes "main") int_void [] (a_stat (block []
    (evaluate (Assign (Compound Add int_type) (int_variable 1) (call 2 int_void []) no_mark) ∷ return (load (int_variable 1)) ∷ [])))
    ∷ [])

-- int f(void); .. f op f;
abbrev pub compared_functions : BinOp → Core
compared_functions op =
    unit []
    (function 9 (codes "main") int_void [] (a_stat (block []
    (evaluate (Binary op (FunctionRef 2 int_void true no_mark) (FunctionRef 2 int_void true no_mark) no_mark) ∷ [])))
    ∷ function 2 (codes "f") int_void [] no_stat
    ∷ [])

-- a comparison of pointers to int
abbrev pub compared_pointers : BinOp → Core
compared_pointers op = valued (binary op (load (Object 1 (pointer_to int_type) no_mark)) (load (Object 1 (pointer_to int_type) no_mark)))
