-- Units of a few lines with each statement, in which calls show which way was taken.
use Rattle.std.specs.Prelude.{ℕ, pos, List, [], ◌∷◌, Some}
use Rattle.model_types.specs.declared.numbers.BinOp.TheVariants.{Mul, Add, Less}
use Rattle.model_types.specs.declared.operators.StepOp.TheVariants.{Increment}
use Rattle.model_types.specs.declared.operators.StepSide.TheVariants.{Prefix}
use Rattle.model_core.specs.CoreTypes.{int_type}
use Rattle.model_core.specs.Core.{Core, Expr, Step, Lvalue, Stat, Cases, If, Switch, While, DoWhile, For, Break, Continue, no_expr, an_expr, no_stat, a_stat, no_cases, a_case, a_default, a_stat_then}
use Rattle.c_model.specs.ExampleParts.{nowhere, no_span, no_mark, number, int_variable, load, binary, assigned, evaluate, start, block, return, automatic, increment}
use Rattle.lowering_rows.specs.EachOperator.{note, in_main}

abbrev noted : ℕ → Stat
noted c = evaluate (note c)

-- while (note(1)) { if (note(2)) continue; if (note(3)) break; else note(4); note(5); } return note(6);
abbrev pub while_loop : Core
while_loop = in_main [] []
    (While (note 1) (block []
    (If (note 2) (Continue nowhere) no_stat no_span
    ∷ If (note 3) (Break nowhere) (a_stat (noted 4)) no_span
    ∷ noted 5 ∷ [])) no_span
    ∷ return (note 6) ∷ [])

-- do { if (note(1)) continue; note(2); } while (note(3)); return 0;
abbrev pub do_loop : Core
do_loop = in_main [] []
    (DoWhile (block [] (If (note 1) (Continue nowhere) no_stat no_span ∷ noted 2 ∷ [])) (note 3) no_span ∷ return (number 0) ∷ [])

abbrev i : Lvalue
i = int_variable 3

-- { int i; for (i = note(1); i < 3; i++, note(2)) { int y = i; if (y) continue; note(3); } } return 0;
abbrev pub for_loop : Core
for_loop = in_main (automatic 3 int_type ∷ automatic 4 int_type ∷ []) []
    (block (3 ∷ [])
    (For (an_expr (assigned i (note 1))) (an_expr (binary Less (load i) (number 3)))
    (an_expr (binary Add (Step Increment Prefix int_type i no_mark) (note 2)))
    (block (4 ∷ []) (start 4 int_type (load i) ∷ If (load (int_variable 4)) (Continue nowhere) no_stat no_span ∷ noted 3 ∷ [])) no_span ∷ [])
    ∷ return (number 0) ∷ [])

-- for (;;) { if (note(1)) break; } return 0;
abbrev pub endless_loop : Core
endless_loop = in_main [] [] (For no_expr no_expr no_expr (block [] (If (note 1) (Break nowhere) no_stat no_span ∷ [])) no_span ∷ return (number 0) ∷ [])

-- switch (note(1)) { int y; case 1: note(2); case 2: y = 7; note(3); break; default: note(4); case 3: ; }
abbrev pub switch : Core
switch = in_main (automatic 3 int_type ∷ []) []
    (Switch (note 1) (3 ∷ [])
    (a_case (pos 1) nowhere (a_stat_then (noted 2)
    (a_case (pos 2) nowhere (a_stat_then (evaluate (assigned i (number 7))) (a_stat_then (noted 3) (a_stat_then (Break nowhere)
    (a_default nowhere (a_stat_then (noted 4) (a_case (pos 3) nowhere no_cases))))))))) no_span
    ∷ return (number 0) ∷ [])
