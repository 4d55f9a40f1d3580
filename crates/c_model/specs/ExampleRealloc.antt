-- A unit that calls `realloc`, and its text: the call leaves, in both.
use Rattle.std.specs.Prelude.{pos, false, List, [], ◌∷◌, ◌++◌, codes}
use Rattle.model_types.specs.Types.{CType, Void}
use Rattle.model_core.specs.CoreTypes.{plain, pointer_to}
use Rattle.model_runs.specs.Run.{Run, Leaves}
use Rattle.model_core.specs.Core.{Core, Constant, no_stat, a_stat}
use Rattle.model_core.specs.Types89 as type89
use Rattle.model_core.specs.Program89 as text
use Rattle.c_model.specs.ExampleParts.{no_mark, number, call, evaluate, block, return, function_type, function, unit}
use Rattle.c_model.specs.ExampleList.{int_void}
use Rattle.c_model.specs.ExampleTexts.{outside, name, two_arguments, number89, main_outer, main_function}
use Rattle.model_core.specs.BuiltinTypes.{size_type}
use Rattle.model_c89.specs.TargetRun.{void_pointer, size_type as size89}

abbrev pub void_pointer_type : CType
void_pointer_type = pointer_to (plain Void)

abbrev pub realloc_type : CType
realloc_type = function_type void_pointer_type (void_pointer_type ∷ size_type ∷ [])

-- void *realloc(void *, unsigned long); int main(void) { realloc((void *)0, 4UL); return 0; }
abbrev pub resizes : Core
resizes =
    unit []
    (function 1 (codes "realloc") realloc_type [] no_stat
    ∷ function 2 (codes "main") int_void [] (a_stat (block []
    (evaluate (call 1 realloc_type (Constant (pos 0) void_pointer_type no_mark ∷ Constant (pos 4) size_type no_mark ∷ []))
    ∷ return (number 0)
    ∷ [])))
    ∷ [])

abbrev pub resizing89 : text.Expr
resizing89 = text.Call (name (codes "realloc")) (two_arguments (text.Cast void_pointer (number89 0)) (text.Constant 4 text.UL))

abbrev pub returning_behind : List text.Stat → text.Program
returning_behind front = record {
  structures = [];
  outers = outside (codes "realloc") (type89.Function void_pointer (type89.more_types void_pointer (type89.more_types size89 type89.no_types)) false) ∷ main_outer ∷ [];
  functions = main_function [] (front ++ text.Return (number89 0) ∷ []) ∷ [];
}

-- the text with the call, and one that leaves it out
abbrev pub resizes_written : text.Program
resizes_written = returning_behind (text.Evaluate resizing89 ∷ [])

abbrev pub resizes_no_more : text.Program
resizes_no_more = returning_behind []

abbrev pub leaves : Run
leaves = record { events = []; moves = []; ending = Leaves }
