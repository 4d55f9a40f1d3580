-- Units that use an owner after `free` took it, as cores, with how their runs end: in a loop, where the first
-- thing that goes wrong is a store through the dead owner, and by two calls of `free` in a row.
use Rattle.std.specs.Prelude.{ℕ, true, List, [], ◌∷◌, codes, Some, None}
use Rattle.cake_base.specs.declared.places.Place.{Place}
use Rattle.model_types.specs.declared.numbers.Basic.TheVariants.{Char}
use Rattle.model_types.specs.declared.numbers.BinOp.TheVariants.{Less}
use Rattle.model_types.specs.declared.operators.UnaryOp.TheVariants.{Not}
use Rattle.model_types.specs.declared.outcomes.Cause.TheVariants.{Dead, BadRelease}
use Rattle.model_types.specs.Types.{CType, typed, Integer, Pointer, Struct}
use Rattle.model_core.specs.CoreTypes.{int_type, no_quals, plain}
use Rattle.model_runs.specs.Run.{Run, Took, Freed, Returned, Undefined}
use Rattle.model_core.specs.Core.{Core, Call, FunctionRef, Assign, Plain, Unary, exprs, Lvalue, Object, Deref, Stat, If, For, no_expr, an_expr, no_stat, a_stat, DeclaredObject}
use Rattle.c_model.specs.FirstUnit.{mark_at}
use Rattle.c_model.specs.ExampleParts.{nowhere, no_mark, no_span, number, int_variable, load, binary, increment, call, evaluate, start, block, return}
use Rattle.c_model.specs.ExampleParts.{function_type, automatic, function, unit, int_value}
use Rattle.c_model.specs.ExampleList.{node_id, void_owner, free_type, int_void, implied}
use Rattle.model_core.specs.BuiltinTypes.{size_type, owner_or_null}

-- a place on one of the lines
abbrev pub at_line : (line column order : ℕ) → Place
at_line line column order = record { file = 0; line = line; column = column; order = order }

abbrev pub char_type : CType
char_type = plain (Integer Char)

-- char * _Owner _Opt
abbrev pub char_owner : CType
char_owner = typed (Pointer char_type) owner_or_null

abbrev pub malloc_type : CType
malloc_type = function_type void_owner (size_type ∷ [])

-- p, where its name stands
abbrev pub owner_at : Place → Lvalue
owner_at place = Object 10 char_owner (mark_at place)

-- char * _Owner _Opt p = malloc(1);
abbrev pub start_owner : Stat
start_owner = start 10 char_owner (implied char_owner (call 1 malloc_type (implied size_type (number 1) ∷ [])))

-- *p = 1;
abbrev pub store_through : (star name : Place) → Stat
store_through star name = evaluate (Assign Plain (Deref (load (owner_at name)) (mark_at star)) (implied char_type (number 1)) no_mark)

-- free(p);
abbrev pub free_at : (parenthesis name : Place) → Stat
free_at parenthesis name =
    evaluate (Call (FunctionRef 2 free_type true no_mark) (exprs (implied void_owner (load (owner_at name)) ∷ [])) (mark_at parenthesis))

abbrev pub owner_object : DeclaredObject
owner_object = record (automatic 10 char_owner) { name = Some (codes "p") }

abbrev pub with_main : List DeclaredObject → Stat → Core
with_main objects body =
    unit
    (owner_object ∷ objects)
    (function 1 (codes "malloc") malloc_type [] no_stat ∷ function 2 (codes "free") free_type [] no_stat ∷ function 3 (codes "main") int_void [] (a_stat body) ∷ [])

-- #include <stdlib.h>
-- int main(void)
-- {
--     char * _Owner _Opt p = malloc(1);
--     if (!p) return 1;
--     for (int i = 0; i < 2; i++) {
--         *p = 1;
--         free(p);
--     }
--     return 0;
-- }
abbrev pub freed_in_loop : Core
freed_in_loop =
    with_main
    (automatic 11 int_type ∷ [])
    (block (10 ∷ [])
    (start_owner
    ∷ If (Unary Not (load (owner_at (at_line 5 10 1))) no_mark) (return (number 1)) no_stat no_span
    ∷ block (11 ∷ [])
    (start 11 int_type (number 0)
    ∷ For no_expr (an_expr (binary Less (load (int_variable 11)) (number 2))) (an_expr (increment (int_variable 11)))
    (block [] (store_through (at_line 7 9 2) (at_line 7 10 3) ∷ free_at (at_line 8 13 4) (at_line 8 14 5) ∷ []))
    no_span
    ∷ [])
    ∷ return (number 0)
    ∷ []))

-- the second round stores through the owner that the first one freed
abbrev pub dead_in_loop : Run
dead_in_loop = record { events = []; moves = Took 1 1 ∷ Freed 1 ∷ []; ending = Undefined Dead (Some (at_line 7 9 2)) }

-- where there is no memory it returns 1
abbrev pub no_loop : Run
no_loop = record { events = []; moves = []; ending = Returned (int_value 1) }

-- the same with `if (p) { *p = 1; free(p); free(p); }` in place of lines 5 to 9, from line 5 on
abbrev pub freed_twice : Core
freed_twice =
    with_main
    []
    (block (10 ∷ [])
    (start_owner
    ∷ If (load (owner_at (at_line 5 9 1)))
    (block [] (store_through (at_line 6 9 2) (at_line 6 10 3) ∷ free_at (at_line 7 13 4) (at_line 7 14 5) ∷ free_at (at_line 8 13 6) (at_line 8 14 7) ∷ []))
    no_stat no_span
    ∷ return (number 0)
    ∷ []))

-- the second call of `free` is a bad release
abbrev pub released_twice : Run
released_twice = record { events = []; moves = Took 1 1 ∷ Freed 1 ∷ []; ending = Undefined BadRelease (Some (at_line 8 13 6)) }

abbrev pub nothing_to_free : Run
nothing_to_free = record { events = []; moves = []; ending = Returned (int_value 0) }

-- the same without `free`: char * _Owner _Opt p = malloc(1); return 0;
abbrev pub never_freed : Core
never_freed = with_main [] (block (10 ∷ []) (start_owner ∷ return (number 0) ∷ []))

-- struct s * _Owner, of a structure that is completed nowhere
abbrev pub sure_owner : CType
sure_owner = typed (Pointer (plain (Struct node_id))) (record no_quals { has_owner = true })

-- struct s * _Owner make(void); int main(void) { make(); return 0; }
abbrev pub asks_for_owner : Core
asks_for_owner =
    record (unit [] (function 1 (codes "make") (function_type sure_owner []) [] no_stat
    ∷ function 2 (codes "main") int_void [] (a_stat (block [] (evaluate (call 1 (function_type sure_owner []) []) ∷ return (number 0) ∷ [])))
    ∷ [])) { structs = record { tag = Some (codes "s"); outer = true; place = nowhere; members = None } ∷ [] }
