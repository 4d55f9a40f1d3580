-- Units of a few lines as cores, with what their runs have to be: defers, scopes, the order of operands,
-- function literals and a value that isn't there.
use Rattle.std.specs.Prelude.{ℕ, true, false, List, [], ◌∷◌, codes, Some}
use Rattle.model_types.specs.declared.numbers.BinOp.TheVariants.{Mul, Add, Less, Equal}
use Rattle.model_types.specs.declared.outcomes.Cause.TheVariants.{Uninitialised, NoValue}
use Rattle.model_types.specs.Types.{CType}
use Rattle.model_core.specs.CoreTypes.{int_type, pointer_to}
use Rattle.model_runs.specs.Run.{Run, Event, Returned, Undefined}
use Rattle.model_core.specs.Core.{Core, Expr, Call, FunctionRef, Load, Choice, Object, exprs, Stat, Defer, If, Continue, For, no_expr, an_expr, no_stat, a_stat, Parameter, Lambda}
use Rattle.c_model.specs.FirstUnit.{mark_at}
use Rattle.c_model.specs.ExampleParts.{at_column, nowhere, no_mark, no_span, number, int_variable, variable, load, binary, assigned, call, increment}
use Rattle.c_model.specs.ExampleParts.{evaluate, start, block, return, function_type, automatic, stored_as, global_int, function, unit, int_value}
use Rattle.c_model.specs.ExampleParts.{called_with}
use Rattle.c_model.specs.ExampleList.{int_void}

abbrev pub int_int : CType
int_int = function_type int_type (int_type ∷ [])

-- what a run is that has these events and returns a number
abbrev pub returned : List Event → ℕ → Run
returned events value = record { events = events; moves = []; ending = Returned (int_value value) }

abbrev pub putchar : Expr → Stat
putchar value = evaluate (call 1 int_int (value ∷ []))

abbrev pub deferred : Stat → Stat
deferred body = Defer body nowhere no_span

-- int putchar(int c); int main(void) { for (int i = 0; i < 3; i++) { defer putchar('d'); if (i == 1) continue; putchar('a' + i); } return 0; }
abbrev pub loop_with_defer : Core
loop_with_defer =
    unit
    (automatic 3 int_type ∷ [])
    (function 1 (codes "putchar") int_int [] no_stat
    ∷ function 2 (codes "main") int_void [] (
    a_stat
    (block []
    (block (3 ∷ [])
    (start 3 int_type (number 0)
    ∷ For no_expr (an_expr (binary Less (load (int_variable 3)) (number 3))) (an_expr (increment (int_variable 3))) (
    block []
    (deferred (putchar (number 100))
    ∷ If (binary Equal (load (int_variable 3)) (number 1)) (Continue nowhere) no_stat no_span
    ∷ putchar (binary Add (number 97) (load (int_variable 3)))
    ∷ [])
    ) no_span
    ∷ [])
    ∷ return (number 0)
    ∷ []))
    )
    ∷ [])

-- the bytes that it writes: addcd
abbrev pub written_by_loop : List Event
written_by_loop =
    called_with (codes "putchar") 97 ∷ called_with (codes "putchar") 100 ∷ called_with (codes "putchar") 100 ∷ called_with (codes "putchar") 99 ∷ called_with (codes "putchar") 100 ∷ []

-- int g = 1; int f(void) { defer g = 2; return g; } int main(void) { return f() * 10 + g; }
abbrev pub deferred_assignment : Core
deferred_assignment =
    unit
    (global_int 1 1 ∷ [])
    (function 2 (codes "f") int_void [] (
    a_stat (block [] (deferred (evaluate (assigned (int_variable 1) (number 2))) ∷ return (load (int_variable 1)) ∷ []))
    )
    ∷ function 3 (codes "main") int_void [] (
    a_stat (block [] (return (binary Add (binary Mul (call 2 int_void []) (number 10)) (load (int_variable 1))) ∷ []))
    )
    ∷ [])

-- int f(void) { int x = 1; { int y = x; int x = 2; return y; } }
abbrev pub hidden_name : Core
hidden_name =
    unit
    (automatic 1 int_type ∷ automatic 2 int_type ∷ automatic 3 int_type ∷ [])
    (function 4 (codes "f") int_void [] (
    a_stat
    (block (1 ∷ [])
    (start 1 int_type (number 1)
    ∷ block (2 ∷ 3 ∷ []) (start 2 int_type (load (int_variable 1)) ∷ start 3 int_type (number 2) ∷ return (load (int_variable 2)) ∷ [])
    ∷ []))
    )
    ∷ [])

-- int g = 1; int f(void) { g = 5; return 2; } int main(void) { return g + f(); }
abbrev pub load_before_call : Core
load_before_call =
    unit
    (global_int 1 1 ∷ [])
    (function 2 (codes "f") int_void [] (a_stat (block [] (evaluate (assigned (int_variable 1) (number 5)) ∷ return (number 2) ∷ [])))
    ∷ function 3 (codes "main") int_void [] (a_stat (block [] (return (binary Add (load (int_variable 1)) (call 2 int_void [])) ∷ [])))
    ∷ [])

abbrev pub pointer_type : CType
pointer_type = pointer_to int_int

-- int main(void) { auto p = (int (int a)) { return a + 1; }; return p(41); }
abbrev pub function_literal : Core
function_literal =
    unit
    (automatic 1 pointer_type ∷ stored_as Parameter (automatic 2 int_type) ∷ [])
    (function 3 (codes "main") int_void [] (
    a_stat
    (block (1 ∷ [])
    (start 1 pointer_type (FunctionRef 4 int_int false no_mark)
    ∷ return (Call (load (variable 1 pointer_type)) (exprs (number 41 ∷ [])) no_mark)
    ∷ []))
    )
    ∷ record (function 4 [] int_int (2 ∷ []) (a_stat (block [] (return (binary Add (load (int_variable 2)) (number 1)) ∷ [])))) {
      name = Lambda nowhere;
      is_external = false;
    }
    ∷ [])

-- int main(void) { int x; return x; }
abbrev pub no_value : Core
no_value =
    unit
    (automatic 1 int_type ∷ [])
    (function 2 (codes "main") int_void [] (
    a_stat
    (block (1 ∷ []) (return (Load (Object 1 int_type (mark_at (at_column 32 10))) (mark_at (at_column 32 10))) ∷ []))
    )
    ∷ [])

abbrev pub without_value : Run
without_value = record { events = []; moves = []; ending = Undefined Uninitialised (Some (at_column 32 10)) }

-- int f(void) { } int main(void) { 1 ? f() : 0; return 0; }, and the same with f(); in place of the choice
abbrev pub with_nothing : Expr → Core
with_nothing e =
    unit []
    (function 1 (codes "f") int_void [] (a_stat (block [] []))
    ∷ function 2 (codes "main") int_void [] (a_stat (block [] (evaluate e ∷ return (number 0) ∷ [])))
    ∷ [])

abbrev pub call_of_nothing : Expr
call_of_nothing = Call (FunctionRef 1 int_void true no_mark) (exprs []) (mark_at (at_column 39 16))

abbrev pub chosen_nothing : Expr
chosen_nothing = Choice (number 1) call_of_nothing (number 0) no_mark

abbrev pub nothing_is_used : Run
nothing_is_used = record { events = []; moves = []; ending = Undefined NoValue (Some (at_column 39 16)) }
