-- C89 programs of a few lines, with what their runs have to be: a loop that writes bytes, and a node on the
-- heap that is printed and freed.
use Rattle.std.specs.Prelude.{ℕ, pos, true, false, List, [], ◌∷◌, codes, Some, None}
use Rattle.model_types.specs.declared.numbers.BinOp.TheVariants.{Add, Less, Equal}
use Rattle.model_core.specs.Types89.{Void, Char, Long, Struct, Type89, Based, Pointer, Array, Function as FunctionType, no_types, more_types, int_type}
use Rattle.model_runs.specs.Run.{Run, Integer, StringAt, Took, Freed, Returned}
use Rattle.c_model.specs.ExampleParts.{int_value}
use Rattle.model_core.specs.Program89 as text
use Rattle.model_c89.specs.TargetRun.{size_type, void_pointer}

abbrev pub stats : List text.Stat → text.Stats
stats [] = text.no_stats
stats (s ∷ ss) = text.more_stats s (stats ss)

abbrev pub name : List ℕ → text.Expr
name n = text.Name n

abbrev pub number89 : ℕ → text.Expr
number89 n = text.Constant n text.Plain

abbrev pub long89 : Type89
long89 = Based false Long

abbrev pub one_argument : text.Expr → text.Exprs
one_argument e = text.more_exprs e text.no_exprs

abbrev pub two_arguments : text.Expr → text.Expr → text.Exprs
two_arguments a b = text.more_exprs a (one_argument b)

-- an outside function
abbrev pub outside : List ℕ → Type89 → text.Outer
outside n type = record { storage = text.Extern; type = type; name = n; init = None }

abbrev pub main_outer : text.Outer
main_outer = record { storage = text.Plainly; type = FunctionType int_type no_types false; name = codes "main"; init = None }

abbrev pub main_function : List text.Declaration → List text.Stat → text.Function
main_function objects body = record {
  is_static = false;
  result = int_type;
  name = codes "main";
  parameters = [];
  is_variadic = false;
  objects = objects;
  body = stats body;
}

abbrev pub not_ : text.Expr → text.Expr
not_ e = text.Unary text.Not e

abbrev pub i : text.Expr
i = name (codes "i_1")

abbrev pub put : text.Expr → text.Stat
put e = text.Evaluate (text.Call (name (codes "putchar")) (one_argument e))

-- for (;;) { if ((!(i_1 < 3))) { break; } if ((i_1 == 1)) { putchar(100); } else { putchar((97 + i_1)); putchar(100); } i_1 = (i_1 + 1); }
abbrev pub writing_loop : text.Stat
writing_loop =
    text.Forever [] (
    stats
    (text.If (not_ (text.Binary Less i (number89 3))) [] (stats (text.Break ∷ []))
    ∷ text.IfElse (text.Binary Equal i (number89 1)) [] (stats (put (number89 100) ∷ [])) [] (
    stats (put (text.Binary Add (number89 97) i) ∷ put (number89 100) ∷ [])
    )
    ∷ text.Assign i (text.Binary Add i (number89 1))
    ∷ [])
    )

abbrev pub writes_bytes : text.Program
writes_bytes = record {
  structures = [];
  outers = outside (codes "putchar") (FunctionType int_type (more_types int_type no_types) false) ∷ main_outer ∷ [];
  functions = main_function (record { type = int_type; name = codes "i_1" } ∷ []) (text.Assign i (number89 0) ∷ writing_loop ∷ text.Return (number89 0) ∷ []) ∷ [];
}

abbrev pub node89 : Type89
node89 = Based false (Struct (codes "node_1"))

abbrev pub node_pointer89 : Type89
node_pointer89 = Pointer false node89

abbrev pub head89 : text.Expr
head89 = name (codes "head_4")

abbrev pub made89 : text.Expr
made89 = name (codes "cake_t1")

-- head_4->value_2
abbrev pub value89 : text.Expr
value89 = text.Arrow head89 (codes "value_2")

abbrev pub node_body : List text.Stat
node_body =
    text.Assign made89 (text.Call (name (codes "calloc")) (two_arguments (text.Constant 1 text.UL) (text.Constant 16 text.UL)))
    ∷ text.If (not_ made89) [] (stats (text.Return (number89 1) ∷ []))
    ∷ text.Assign head89 (text.Cast node_pointer89 made89)
    ∷ text.Assign value89 (number89 3)
    ∷ text.Assign (text.Arrow head89 (codes "next_3")) (text.Cast void_pointer (number89 0))
    ∷ text.Evaluate (text.Call (name (codes "printf")) (two_arguments (name (codes "cake_s1")) value89))
    ∷ text.Evaluate (text.Call (name (codes "free")) (one_argument (text.Cast void_pointer head89)))
    ∷ text.Return (number89 0)
    ∷ []

abbrev pub prints_node : text.Program
prints_node = record {
  structures = text.Tag (codes "node_1")
      ∷ text.Members (codes "node_1") (record { type = int_type; name = codes "value_2" }) (record { type = node_pointer89; name = codes "next_3" } ∷ [])
      ∷ [];
  outers = outside (codes "printf") (FunctionType int_type (more_types (Pointer false (Based true Char)) no_types) true)
      ∷ outside (codes "calloc") (FunctionType void_pointer (more_types size_type (more_types size_type no_types)) false)
      ∷ outside (codes "free") (FunctionType (Based false Void) (more_types void_pointer no_types) false)
      ∷ record { storage = text.Static; type = Array (Some 4) (Based false Char); name = codes "cake_s1"; init = Some (text.Text (codes "%d\n")) }
      ∷ main_outer
      ∷ [];
  functions = main_function
      (record { type = node_pointer89; name = codes "head_4" } ∷ record { type = void_pointer; name = codes "cake_t1" } ∷ []) node_body
      ∷ [];
}

abbrev pub node_printed : Run
node_printed = record {
  events = record { name = codes "printf"; arguments = StringAt (codes "%d\n") ∷ Integer (pos 3) ∷ []; answer = Some (pos 2) } ∷ [];
  moves = Took 1 16 ∷ Freed 1 ∷ [];
  ending = Returned (int_value 0);
}
