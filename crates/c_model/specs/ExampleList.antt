-- A unit that builds a list on the heap, prints it and frees it, as a core, with what its run has to be.
use Rattle.std.specs.Prelude.{ℕ, pos, true, false, List, [], ◌∷◌, codes, Some}
use Rattle.model_types.specs.declared.numbers.Basic.TheVariants.{Char, Int}
use Rattle.model_types.specs.declared.numbers.BinOp.TheVariants.{LessEqual}
use Rattle.model_types.specs.declared.operators.UnaryOp.TheVariants.{Not}
use Rattle.model_types.specs.declared.marks.Origin.TheVariants.{Implied}
use Rattle.model_types.specs.declared.types.Quals.{Quals}
use Rattle.model_types.specs.declared.types.StructId.{StructId}
use Rattle.model_types.specs.Types.{CType, typed, Void, Integer, Pointer, Array, Struct, Function as FunctionForm, types}
use Rattle.model_types.specs.Structures.{Structure}
use Rattle.model_core.specs.CoreTypes.{int_type, plain, no_quals}
use Rattle.model_runs.specs.Run.{Run, Event, Integer as IntegerArgument, StringAt, Took, Freed, Returned}
use Rattle.model_core.specs.Core.{Core, Expr, Constant, Convert, Address, Unary, Lvalue, Arrow, Stat, If, While, For, no_expr, an_expr, no_stat, a_stat, Parameter, Text}
use Rattle.c_model.specs.ExampleParts.{nowhere, no_mark, no_span, number, int_variable, variable, load, binary, assigned, call, increment, evaluate}
use Rattle.c_model.specs.ExampleParts.{start, block, return, function_type, automatic, stored_as, function, int_value}
use Rattle.model_core.specs.BuiltinTypes.{size_type, owner_or_null}

abbrev pub node_id : StructId
node_id = record { 0 = 0 }

-- struct node
abbrev pub node : CType
node = plain (Struct node_id)

abbrev pub is_const : Quals
is_const = record no_quals { has_const = true }

-- struct node * _Owner _Opt
abbrev pub node_owner : CType
node_owner = typed (Pointer node) owner_or_null

-- members of a const struct node
abbrev pub const_int : CType
const_int = typed (Integer Int) is_const

abbrev pub const_owner : CType
const_owner = typed (Pointer node) (record owner_or_null { has_const = true })

-- const struct node *
abbrev pub node_view : CType
node_view = plain (Pointer (typed (Struct node_id) is_const))

-- const char *
abbrev pub text_pointer : CType
text_pointer = plain (Pointer (typed (Integer Char) is_const))

-- void * _Owner _Opt
abbrev pub void_owner : CType
void_owner = typed (Pointer (plain Void)) owner_or_null

-- struct node { int value; struct node * _Owner _Opt next; };
abbrev pub node_struct : Structure
node_struct = record {
  tag = Some (codes "node");
  outer = true;
  place = nowhere;
  members = Some
      (record { name = codes "value"; ty = int_type; place = nowhere } ∷ record { name = codes "next"; ty = node_owner; place = nowhere } ∷ []);
}

abbrev pub format : List ℕ
format = codes "%d\n"

abbrev pub printf_type : CType
printf_type = plain (FunctionForm int_type (types (text_pointer ∷ [])) true)

abbrev pub calloc_type : CType
calloc_type = function_type void_owner (size_type ∷ size_type ∷ [])

abbrev pub free_type : CType
free_type = function_type (plain Void) (void_owner ∷ [])

abbrev pub drop_type : CType
drop_type = function_type (plain Void) (node_owner ∷ [])

abbrev pub int_void : CType
int_void = function_type int_type []

-- a node's member, by a pointer that is read
abbrev pub value_of : Lvalue → Lvalue
value_of pointer = Arrow (load pointer) 0 int_type nowhere no_mark

abbrev pub next_of : Lvalue → Lvalue
next_of pointer = Arrow (load pointer) 1 node_owner nowhere no_mark

abbrev pub implied : CType → Expr → Expr
implied type value = Convert Implied type value no_mark

abbrev pub dropped : Lvalue
dropped = variable 10 node_owner

abbrev pub next : Lvalue
next = variable 11 node_owner

abbrev pub head : Lvalue
head = variable 12 node_owner

abbrev pub count : Lvalue
count = int_variable 13

abbrev pub made : Lvalue
made = variable 14 node_owner

abbrev pub view : Lvalue
view = variable 15 node_view

-- { while (n) { struct node * _Owner _Opt next = n->next; free(n); n = next; } }
abbrev pub drop_body : Stat
drop_body =
    block []
    (While (load dropped) (
    block (11 ∷ [])
    (start 11 node_owner (load (next_of dropped))
    ∷ evaluate (call 3 free_type (implied void_owner (load dropped) ∷ []))
    ∷ evaluate (assigned dropped (load next))
    ∷ [])
    ) no_span
    ∷ [])

abbrev pub drop_head : Stat
drop_head = evaluate (call 4 drop_type (load head ∷ []))

-- calloc(1, sizeof *n)
abbrev pub new_node : Expr
new_node = implied node_owner (call 2 calloc_type (implied size_type (number 1) ∷ Constant (pos 16) size_type no_mark ∷ []))

-- { struct node * _Owner _Opt n = calloc(1, sizeof *n); if (!n) { drop(head); return 1; } n->value = i; n->next = head; head = n; }
abbrev pub make_body : Stat
make_body =
    block (14 ∷ [])
    (start 14 node_owner new_node
    ∷ If (Unary Not (load made) no_mark) (block [] (drop_head ∷ return (number 1) ∷ [])) no_stat no_span
    ∷ evaluate (assigned (value_of made) (load count))
    ∷ evaluate (assigned (next_of made) (load head))
    ∷ evaluate (assigned head (load made))
    ∷ [])

-- for (int i = 1; i <= 3; i++) ..
abbrev pub make_nodes : Stat
make_nodes =
    block (13 ∷ [])
    (start 13 int_type (number 1)
    ∷ For no_expr (an_expr (binary LessEqual (load count) (number 3))) (an_expr (increment count)) make_body no_span
    ∷ [])

abbrev pub viewed_value : Lvalue
viewed_value = Arrow (load view) 0 const_int nowhere no_mark

abbrev pub viewed_next : Lvalue
viewed_next = Arrow (load view) 1 const_owner nowhere no_mark

-- printf("%d\n", p->value)
abbrev pub print : Stat
print =
    evaluate
    (call 1 printf_type
    (implied text_pointer (Address Implied (variable 16 (plain (Array (plain (Integer Char)) (Some 4)))) no_mark) ∷ load viewed_value ∷ []))

-- for (const struct node *p = head; p; p = p->next) ..
abbrev pub print_nodes : Stat
print_nodes =
    block (15 ∷ [])
    (start 15 node_view (implied node_view (load head))
    ∷ For no_expr (an_expr (load view)) (an_expr (assigned view (implied node_view (load viewed_next)))) print no_span
    ∷ [])

abbrev pub main_body : Stat
main_body =
    block (12 ∷ [])
    (start 12 node_owner (Constant (pos 0) node_owner no_mark) ∷ make_nodes ∷ print_nodes ∷ drop_head ∷ return (number 0) ∷ [])

abbrev pub list_of_nodes : Core
list_of_nodes = record {
  objects = stored_as Parameter (automatic 10 node_owner)
      ∷ automatic 11 node_owner
      ∷ automatic 12 node_owner
      ∷ automatic 13 int_type
      ∷ automatic 14 node_owner
      ∷ automatic 15 node_view
      ∷ stored_as (Text format) (automatic 16 (plain (Array (plain (Integer Char)) (Some 4))))
      ∷ [];
  functions = function 1 (codes "printf") printf_type [] no_stat
      ∷ function 2 (codes "calloc") calloc_type [] no_stat
      ∷ function 3 (codes "free") free_type [] no_stat
      ∷ record (function 4 (codes "drop") drop_type (10 ∷ []) (a_stat drop_body)) { is_external = false }
      ∷ function 5 (codes "main") int_void [] (a_stat main_body)
      ∷ [];
  structs = node_struct ∷ [];
  named_types = [];
}

-- a call of printf with the format and a number
abbrev pub printed : ℕ → Event
printed value = record { name = codes "printf"; arguments = StringAt format ∷ IntegerArgument (pos value) ∷ []; answer = Some (pos 0) }

-- where the world has memory, 3, 2 and 1 are printed, and each node is freed once
abbrev pub with_memory : Run
with_memory = record {
  events = printed 3 ∷ printed 2 ∷ printed 1 ∷ [];
  moves = Took 1 16 ∷ Took 2 16 ∷ Took 3 16 ∷ Freed 3 ∷ Freed 2 ∷ Freed 1 ∷ [];
  ending = Returned (int_value 0);
}

abbrev pub without_memory : Run
without_memory = record { events = []; moves = []; ending = Returned (int_value 1) }
