-- Units of a few lines, each with a program that isn't one of it: what was done wrong shows in the run.
use Rattle.std.specs.Prelude.{ℕ, pos, true, false, List, [], ◌∷◌, codes, Some, None}
use Rattle.model_types.specs.declared.numbers.BinOp.TheVariants.{Add, Sub, Less}
use Rattle.model_types.specs.declared.operators.LogicOp.TheVariants.{And}
use Rattle.model_types.specs.declared.marks.Origin.TheVariants.{Implied}
use Rattle.model_core.specs.CoreTypes.{int_type}
use Rattle.model_core.specs.Core.{Core, DeclaredObject, Expr, Logic, Address, Lvalue, Index, Stat, If, DoWhile, For, Continue, an_expr, no_stat, a_stat}
use Rattle.model_core.specs.Types89.{Type89, Array, Function as FunctionType, no_types, more_types, int_type as int89}
use Rattle.model_core.specs.Program89 as text
use Rattle.c_model.specs.ExampleParts.{nowhere, no_span, no_mark, number, int_variable, variable, load, binary, assigned, evaluate, start, block, return, automatic, function, unit}
use Rattle.c_model.specs.ExampleFaults.{array_of}
use Rattle.c_model.specs.ExampleTexts.{stats, name, number89, one_argument, outside, main_outer, main_function, not_}
use Rattle.c_model.specs.ExampleList.{int_void}
use Rattle.lowering_rows.specs.EachOperator.{note, in_main}

-- ---- short words

abbrev x : Lvalue
x = int_variable 3

abbrev y : Lvalue
y = int_variable 4

abbrev two_ints : List DeclaredObject
two_ints = automatic 3 int_type ∷ automatic 4 int_type ∷ []

abbrev x89 : text.Expr
x89 = name (codes "x")

abbrev y89 : text.Expr
y89 = name (codes "y")

abbrev t89 : text.Expr
t89 = name (codes "t")

abbrev u89 : text.Expr
u89 = name (codes "u")

abbrev ints89 : List text.Declaration
ints89 =
    record { type = int89; name = codes "x" } ∷ record { type = int89; name = codes "y" }
    ∷ record { type = int89; name = codes "t" } ∷ record { type = int89; name = codes "u" } ∷ []

abbrev note89 : ℕ → text.Expr
note89 c = text.Call (name (codes "note")) (one_argument (number89 c))

abbrev set : text.Expr → text.Expr → text.Stat
set = text.Assign

abbrev with_main : List text.Declaration → List text.Stat → text.Program
with_main objects body = record {
  structures = [];
  outers = outside (codes "note") (FunctionType int89 (more_types int89 no_types) false) ∷ main_outer ∷ [];
  functions = main_function objects body ∷ [];
}

abbrev plus_one : text.Expr → text.Stat
plus_one e = set e (text.Binary Add e (number89 1))

abbrev stepped : Lvalue → Expr
stepped object = assigned object (binary Add (load object) (number 1))

-- ---- a load that waits for what stands behind it

-- int x = 5; return x + (x = 7);
abbrev pub load_first : Core
load_first = in_main two_ints (3 ∷ []) (start 3 int_type (number 5) ∷ return (binary Add (load x) (assigned x (number 7))) ∷ [])

abbrev pub loaded_later : text.Program
loaded_later = with_main ints89 (set x89 (number89 5) ∷ set x89 (number89 7) ∷ text.Return (text.Binary Add x89 x89) ∷ [])

-- ---- two locals that share a name

-- int x = 1; { int x = 2; } return x;
abbrev pub two_locals : Core
two_locals = in_main two_ints (3 ∷ []) (start 3 int_type (number 1) ∷ block (4 ∷ []) (start 4 int_type (number 2) ∷ []) ∷ return (load x) ∷ [])

abbrev pub one_local : text.Program
one_local = with_main ints89 (set x89 (number89 1) ∷ text.Block [] (stats (set x89 (number89 2) ∷ [])) ∷ text.Return x89 ∷ [])

-- ---- the right operand first

-- return note(1) - note(2);
abbrev pub left_first : Core
left_first = in_main [] [] (return (binary Sub (note 1) (note 2)) ∷ [])

abbrev pub right_first : text.Program
right_first = with_main ints89 (set u89 (note89 2) ∷ set t89 (note89 1) ∷ text.Return (text.Binary Sub t89 u89) ∷ [])

-- ---- the step of `for` before its first test

-- int x, y = 0; for (x = 0; x < 1; x = x + 1) y = y + 1; return y;
abbrev pub test_first : Core
test_first = in_main two_ints (3 ∷ 4 ∷ [])
    (start 4 int_type (number 0)
    ∷ For (an_expr (assigned x (number 0))) (an_expr (binary Less (load x) (number 1))) (an_expr (stepped x)) (evaluate (stepped y)) no_span
    ∷ return (load y) ∷ [])

abbrev pub step_first : text.Program
step_first = with_main ints89
    (set y89 (number89 0) ∷ set x89 (number89 0)
    ∷ text.Forever [] (stats (plus_one x89 ∷ text.IfElse (text.Binary Less x89 (number89 1)) [] (stats (plus_one y89 ∷ [])) [] (stats (text.Break ∷ [])) ∷ []))
    ∷ text.Return y89 ∷ [])

-- ---- `continue` that skips the test of `do`

-- int x = 0; do { x = x + 1; if (note(1)) continue; } while (note(2)); return x;
abbrev pub continue_to_test : Core
continue_to_test = in_main two_ints (3 ∷ [])
    (start 3 int_type (number 0)
    ∷ DoWhile (block [] (evaluate (stepped x) ∷ If (note 1) (Continue nowhere) no_stat no_span ∷ [])) (note 2) no_span
    ∷ return (load x) ∷ [])

abbrev pub continue_to_body : text.Program
continue_to_body = with_main ints89
    (set x89 (number89 0)
    ∷ text.Forever [] (stats
    (plus_one x89 ∷ set t89 (note89 1) ∷ text.If t89 [] (stats (text.Continue ∷ []))
    ∷ set u89 (note89 2) ∷ text.If (not_ u89) [] (stats (text.Break ∷ [])) ∷ []))
    ∷ text.Return x89 ∷ [])

-- ---- `&&` that evaluates both

-- int x = 0; note(1) && (x = 1); return x;
abbrev pub second_where_asked : Core
second_where_asked = in_main two_ints (3 ∷ [])
    (start 3 int_type (number 0) ∷ evaluate (Logic And (note 1) (assigned x (number 1)) no_mark) ∷ return (load x) ∷ [])

abbrev pub second_always : text.Program
second_always = with_main ints89 (set x89 (number89 0) ∷ set t89 (note89 1) ∷ set x89 (number89 1) ∷ text.Return x89 ∷ [])

-- ---- the right side of an assignment before its place

abbrev array : Lvalue
array = variable 4 (array_of int_type 2)

abbrev element : Expr → Lvalue
element rank = Index false (Address Implied array no_mark) rank no_mark

abbrev element89 : text.Expr → text.Expr
element89 rank = text.Index (name (codes "a")) rank

-- int x = 0, a[2]; a[0] = 5; a[x] = (x = 1); return a[0];
abbrev pub place_first : Core
place_first = in_main (automatic 3 int_type ∷ automatic 4 (array_of int_type 2) ∷ []) (3 ∷ 4 ∷ [])
    (start 3 int_type (number 0) ∷ evaluate (assigned (element (number 0)) (number 5))
    ∷ evaluate (assigned (element (load x)) (assigned x (number 1))) ∷ return (load (element (number 0))) ∷ [])

abbrev pub value_first : text.Program
value_first = with_main (record { type = Array (Some 2) int89; name = codes "a" } ∷ ints89)
    (set x89 (number89 0) ∷ set (element89 (number89 0)) (number89 5)
    ∷ set x89 (number89 1) ∷ set (element89 x89) x89 ∷ text.Return (element89 (number89 0)) ∷ [])

-- ---- a local that keeps its value

-- int x; for (x = 0; x < 2; x = x + 1) { int y = 0; y = y + 1; note(y); if (note(7)) return y; } return 0;
abbrev pub new_each_time : Core
new_each_time = in_main two_ints (3 ∷ [])
    (For (an_expr (assigned x (number 0))) (an_expr (binary Less (load x) (number 2))) (an_expr (stepped x))
    (block (4 ∷ []) (start 4 int_type (number 0) ∷ evaluate (stepped y) ∷ If (note 7) (return (load y)) no_stat no_span ∷ [])) no_span
    ∷ return (number 0) ∷ [])

abbrev pub kept_each_time : text.Program
kept_each_time = with_main ints89
    (set y89 (number89 0) ∷ set x89 (number89 0)
    ∷ text.Forever [] (stats
    (text.If (not_ (text.Binary Less x89 (number89 2))) [] (stats (text.Break ∷ []))
    ∷ plus_one y89 ∷ set t89 (note89 7) ∷ text.If t89 [] (stats (text.Return y89 ∷ [])) ∷ plus_one x89 ∷ []))
    ∷ text.Return (number89 0) ∷ [])

-- ---- a function of the unit alone

-- static int f(void) { return 1; } int main(void) { return f(); }
abbrev pub internal : Core
internal =
    unit []
    (record (function 1 (codes "f") int_void [] (a_stat (block [] (return (number 1) ∷ [])))) { is_external = false }
    ∷ function 2 (codes "main") int_void [] (a_stat (block [] (return (number 0) ∷ []))) ∷ [])

abbrev pub exported : text.Program
exported = record {
  structures = [];
  outers = main_outer ∷ [];
  functions =
      record (main_function [] (text.Return (number89 1) ∷ [])) { name = codes "f" } ∷ main_function [] (text.Return (number89 0) ∷ []) ∷ [];
}
